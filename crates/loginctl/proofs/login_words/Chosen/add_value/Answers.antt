use Rattle.std.proofs.Common.{ℕ, List, Option}
use Rattle.std.specs.Prelude.{string_bytes}
use Rattle.loginctl.specs.LoginWords.{Choice, choice_of, text_of}
use Rattle.loginctl.specs.declared.login_words.LoginOption.TheVariants.{Socket, User, Password, Factor2, Factor3}
use Rattle.loginctl.proofs.Choosing.{becomes-at, puts-becomes}
use Rattle.loginctl.proofs.login_words.Chosen.add_value.Goals as goal

pub returns-in_ok-kept-in-Socket : goal.returns-in_ok-kept-in-Socket
unfolding choice_of
returns-in_ok-kept-in-Socket c =
    let make = λ (text : Option (List ℕ)). let choice : Choice = record (choice_of c.args.self.now) { socket = text } in choice in
    becomes-at c.args.option Socket c.in_ok-kept-in-Socket.kept (string_bytes c.args.value.now) (choice_of c.args.self.now) (make (text_of c.put.new.place)) c.in-Socket.is
    (puts-becomes make (text_of c.args.self.now.socket) (text_of c.put.new.place) c.in_ok-kept-in-Socket.kept (string_bytes c.args.value.now) c.in_ok-kept-in-Socket.ensures)

pub returns-in_ok-kept-in-User : goal.returns-in_ok-kept-in-User
unfolding choice_of
returns-in_ok-kept-in-User c =
    let make = λ (text : Option (List ℕ)). let choice : Choice = record (choice_of c.args.self.now) { user = text } in choice in
    becomes-at c.args.option User c.in_ok-kept-in-User.kept (string_bytes c.args.value.now) (choice_of c.args.self.now) (make (text_of c.put-in-User.new.place)) c.in-User.is
    (puts-becomes make (text_of c.args.self.now.user) (text_of c.put-in-User.new.place) c.in_ok-kept-in-User.kept (string_bytes c.args.value.now) c.in_ok-kept-in-User.ensures)

pub returns-in_ok-kept-in-Password : goal.returns-in_ok-kept-in-Password
unfolding choice_of
returns-in_ok-kept-in-Password c =
    let make = λ (text : Option (List ℕ)). let choice : Choice = record (choice_of c.args.self.now) { password = text } in choice in
    becomes-at c.args.option Password c.in_ok-kept-in-Password.kept (string_bytes c.args.value.now) (choice_of c.args.self.now) (make (text_of c.put-in-Password.new.place)) c.in-Password.is
    (puts-becomes make (text_of c.args.self.now.password) (text_of c.put-in-Password.new.place) c.in_ok-kept-in-Password.kept (string_bytes c.args.value.now) c.in_ok-kept-in-Password.ensures)

pub returns-in_ok-kept-in-Factor2 : goal.returns-in_ok-kept-in-Factor2
unfolding choice_of
returns-in_ok-kept-in-Factor2 c =
    let make = λ (text : Option (List ℕ)). let choice : Choice = record (choice_of c.args.self.now) { factor2 = text } in choice in
    becomes-at c.args.option Factor2 c.in_ok-kept-in-Factor2.kept (string_bytes c.args.value.now) (choice_of c.args.self.now) (make (text_of c.put-in-Factor2.new.place)) c.in-Factor2.is
    (puts-becomes make (text_of c.args.self.now.factor2) (text_of c.put-in-Factor2.new.place) c.in_ok-kept-in-Factor2.kept (string_bytes c.args.value.now) c.in_ok-kept-in-Factor2.ensures)

pub returns-in_ok-kept-in-Factor3 : goal.returns-in_ok-kept-in-Factor3
unfolding choice_of
returns-in_ok-kept-in-Factor3 c =
    let make = λ (text : Option (List ℕ)). let choice : Choice = record (choice_of c.args.self.now) { factor3 = text } in choice in
    becomes-at c.args.option Factor3 c.in_ok-kept-in-Factor3.kept (string_bytes c.args.value.now) (choice_of c.args.self.now) (make (text_of c.put-in-Factor3.new.place)) c.in-Factor3.is
    (puts-becomes make (text_of c.args.self.now.factor3) (text_of c.put-in-Factor3.new.place) c.in_ok-kept-in-Factor3.kept (string_bytes c.args.value.now) c.in_ok-kept-in-Factor3.ensures)
