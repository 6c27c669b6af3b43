-- Every beginning that a rule of the grammar reads goes on.
use Rattle.std.proofs.Common.{◌≡◌, ℕ, Bool, true, false, List, [], ◌∷◌, ◌++◌, codes, Option, Some, None, Ok, refl}
use Rattle.std.specs.List.{list_all}
use Rattle.std.specs.Str.{bytes_eq}
use Rattle.lg_base.specs.declared.names.Host.TheVariants.{Localhost, Any}
use Rattle.lg_base.specs.declared.names.Name.{Name}
use Rattle.stmt_tokens.proofs.Lexing.{sign, text, word}
use Rattle.stmt_tokens.proofs.Standing.{Stands, sign_stands, text_stands, word_stands}
use Rattle.stmt_rules.proofs.Onward.{AllStand, Always, AtEnd, Lively, Onward, Stops, ends_lively, ends_onward, gives_lively, gives_onward, just_lively, many_lively, next_lively, next_onward, refused_onward, seq_before, seq_lively}
use Rattle.stmt_rules.specs.Forms.{Form, either, gives, next, refused, seq}
use Rattle.stmt_rules.specs.Grammar.{account_option, alter, alter_named, alter_of, alter_own, auth, bound, bound_in_days, change, create, discarded, dropped, expire, factor, factors, flushed, further_options, further_privilege, grant, host, is_nothing, just, lock_time, name, name_of, no_options, numbered, on_all, option, option_repeats, options, over, own_change, password, password_option, privilege, privilege_repeats, privileges, retained, revoke, statement, target, ways}
use Rattle.stmt_tokens.specs.Patterns.{Word, Sign, Part, PartLike, InQuotes, Text, Number, is_same, number_of}
use Rattle.stmt_tokens.specs.Tokens.{is_blank, is_word_byte}
use Rattle.stmt_rules.specs.declared.statement.Bound.TheVariants as bounds
use Rattle.stmt_rules.specs.declared.statement.Change.TheVariants.{Nothing, Password, Discard, Add, Modify, DropFactor}
use Rattle.stmt_rules.specs.declared.statement.Expire.TheVariants as expires
use Rattle.stmt_rules.specs.declared.statement.Options.{Options}
use Rattle.stmt_rules.specs.declared.statement.Privileges.{Privileges}
use Rattle.stmt_rules.specs.declared.statement.Statement.{Statement}
use Rattle.stmt_rules.specs.declared.statement.Statement.TheVariants.{Create, Alter, Drop, Flush, Grant, Revoke}
use Rattle.stmt_rules.specs.declared.statement.Target.{Target}
use Rattle.stmt_rules.specs.declared.statement.Target.TheVariants.{Own, Named}
use Rattle.stmt_rules.specs.declared.statement.Time.TheVariants as time
use Rattle.stmt_tokens.specs.declared.token.Token.{Token}

-- a form that goes on behind a word, a sign, a part, a string or a number
word_lively : {A : Type 0} (P : List Token → Type 0) (b : ℕ) (bs : List ℕ) (goes : List ℕ → Form A) (otherwise : Form A)
    → is_blank b ≡ false → is_word_byte b ≡ true → list_all is_word_byte bs ≡ true → is_same (b ∷ bs) (b ∷ bs) ≡ true
    → ((x : List ℕ) → Lively P (goes x)) → Onward P otherwise → Lively P (next (Word (b ∷ bs)) goes otherwise)
word_lively P b bs goes otherwise e f h k lg lo =
    next_lively P (Word (b ∷ bs)) goes otherwise (word (b ∷ bs)) (word_stands b bs e f h) k lg lo

must_lively : {A : Type 0} (P : List Token → Type 0) (b : ℕ) (bs : List ℕ) (f : Form A)
    → is_blank b ≡ false → is_word_byte b ≡ true → list_all is_word_byte bs ≡ true → is_same (b ∷ bs) (b ∷ bs) ≡ true
    → Lively P f → Lively P (just (Word (b ∷ bs)) f)
must_lively P b bs f e g h k l = just_lively P (Word (b ∷ bs)) f (word (b ∷ bs)) (word_stands b bs e g h) k l

sign_lively : {A : Type 0} (P : List Token → Type 0) (b : ℕ) (goes : List ℕ → Form A) (otherwise : Form A)
    → Stands (sign b) → bytes_eq (b ∷ []) (b ∷ []) ≡ true
    → ((x : List ℕ) → Lively P (goes x)) → Onward P otherwise → Lively P (next (Sign b) goes otherwise)
sign_lively P b goes otherwise k e lg lo = next_lively P (Sign b) goes otherwise (sign b) k e lg lo

a_stands : Stands (word (codes "a"))
a_stands = word_stands 97 [] refl refl refl

part_lively : {A : Type 0} (P : List Token → Type 0) (goes : List ℕ → Form A) → ((x : List ℕ) → Lively P (goes x)) → Lively P (next Part goes refused)
part_lively P goes lg = next_lively P Part goes refused (word (codes "a")) a_stands refl lg (refused_onward P)

string_lively : {A : Type 0} (P : List Token → Type 0) (goes : List ℕ → Form A) → ((x : List ℕ) → Lively P (goes x)) → Lively P (next Text goes refused)
string_lively P goes lg = next_lively P Text goes refused (text []) text_stands refl lg (refused_onward P)

zero_stands : Stands (word (codes "0"))
zero_stands = word_stands 48 [] refl refl refl

number_lively : {A : Type 0} (P : List Token → Type 0) (goes : List ℕ → Form A) → ((x : List ℕ) → Lively P (goes x)) → Lively P (next Number goes refused)
number_lively P goes lg = next_lively P Number goes refused (word (codes "0")) zero_stands refl lg (refused_onward P)

host_lively : Lively Always host
unfolding host is_same
host_lively =
    sign_lively Always 64 _ _ (sign_stands 64 refl refl refl refl) refl
    (λ x. next_lively Always (PartLike (codes "localhost")) _ _ (word (codes "localhost")) (word_stands 108 (codes "ocalhost") refl refl refl) refl
    (λ y. gives_lively Always Localhost)
    (next_onward Always (InQuotes (codes "%")) _ _ (λ y. gives_lively Always Any) (refused_onward Always)))
    (gives_onward Always Any)

name_of_lively : (user : List ℕ) → Lively Always (name_of user)
name_of_lively user = seq_lively Always host _ host_lively (λ h. gives_lively Always (record { user = user; host = h }))

name_lively : Lively Always name
unfolding name
name_lively = part_lively Always _ (λ user. name_of_lively user)

retained_lively : (keeps : Bool) → Lively Always (retained keeps)
unfolding retained is_same
retained_lively true =
    word_lively Always 82 (codes "ETAIN") _ _ refl refl refl refl
    (λ x. must_lively Always 67 (codes "URRENT") _ refl refl refl refl
    (must_lively Always 80 (codes "ASSWORD") _ refl refl refl refl (gives_lively Always true)))
    (gives_onward Always false)
retained_lively false = gives_lively Always false

password_lively : (keeps : Bool) (method : Option (List ℕ)) → Lively Always (password keeps method)
unfolding password
password_lively keeps method =
    string_lively Always _ (λ x. seq_lively Always (retained keeps) _ (retained_lively keeps) (λ retain. gives_lively Always (record { method = method; password = Some x; retain = retain })))

auth_lively : (keeps : Bool) → Lively Always (auth keeps)
unfolding auth is_same
auth_lively keeps =
    word_lively Always 66 (codes "Y") _ _ refl refl refl refl (λ x. password_lively keeps None)
    (must_lively Always 87 (codes "ITH") _ refl refl refl refl
    (part_lively Always _
    (λ method. word_lively Always 66 (codes "Y") _ _ refl refl refl refl (λ x. password_lively keeps (Some method)) (gives_onward Always (record { method = Some method; password = None; retain = false }))))).further

factor_lively : Lively Always factor
unfolding factor is_same
factor_lively =
    must_lively Always 73 (codes "DENTIFIED") _ refl refl refl refl
    (must_lively Always 87 (codes "ITH") _ refl refl refl refl
    (part_lively Always _
    (λ method. must_lively Always 65 (codes "S") _ refl refl refl refl
    (string_lively Always _ (λ label. gives_lively Always (record { method = method; label = label }))))))

factors_lively : Lively Always factors
unfolding factors is_same
factors_lively =
    word_lively Always 65 (codes "ND") _ _ refl refl refl refl
    (λ x. seq_lively Always factor _ factor_lively
    (λ second. word_lively Always 65 (codes "ND") _ _ refl refl refl refl
    (λ y. seq_lively Always factor _ factor_lively (λ third. gives_lively Always (second ∷ third ∷ [])))
    (gives_onward Always (second ∷ []))))
    (gives_onward Always [])

bound_lively : Lively Always bound
unfolding bound is_same
bound_lively =
    word_lively Always 68 (codes "EFAULT") _ _ refl refl refl refl (λ x. gives_lively Always bounds.Default)
    (number_lively Always _ (λ n. gives_lively Always (bounds.Count (number_of n)))).further

bound_in_days_lively : Lively Always bound_in_days
unfolding bound_in_days is_same
bound_in_days_lively =
    word_lively Always 68 (codes "EFAULT") _ _ refl refl refl refl (λ x. gives_lively Always bounds.Default)
    (number_lively Always _ (λ n. must_lively Always 68 (codes "AY") _ refl refl refl refl (gives_lively Always (bounds.Count (number_of n))))).further

lock_time_lively : Lively Always lock_time
unfolding lock_time is_same
lock_time_lively =
    word_lively Always 85 (codes "NBOUNDED") _ _ refl refl refl refl (λ x. gives_lively Always time.Unbounded)
    (number_lively Always _ (λ n. gives_lively Always (time.Days (number_of n)))).further

expire_lively : Lively Always expire
unfolding expire is_same
expire_lively =
    word_lively Always 68 (codes "EFAULT") _ _ refl refl refl refl (λ x. gives_lively Always expires.Default)
    (next_onward Always (Word (codes "NEVER")) _ _ (λ x. gives_lively Always expires.Never)
    (next_onward Always (Word (codes "INTERVAL")) _ _
    (λ x. number_lively Always _ (λ n. must_lively Always 68 (codes "AY") _ refl refl refl refl (gives_lively Always (expires.Days (number_of n)))))
    (gives_onward Always expires.Now)))

password_option_lively : (o : Options) → Lively Always (password_option o)
unfolding password_option is_same
password_option_lively o =
    word_lively Always 69 (codes "XPIRE") _ _ refl refl refl refl
    (λ x. seq_lively Always expire _ expire_lively (λ e. gives_lively Always (record o { expire = Some e })))
    (next_onward Always (Word (codes "HISTORY")) _ _
    (λ x. seq_lively Always bound _ bound_lively (λ b. gives_lively Always (record o { history = Some b })))
    (must_lively Always 82 (codes "EUSE") _ refl refl refl refl
    (must_lively Always 73 (codes "NTERVAL") _ refl refl refl refl
    (seq_lively Always bound_in_days _ bound_in_days_lively (λ b. gives_lively Always (record o { reuse = Some b }))))).further)

account_option_lively : (o : Options) → Lively Always (account_option o)
unfolding account_option is_same
account_option_lively o =
    word_lively Always 76 (codes "OCK") _ _ refl refl refl refl (λ x. gives_lively Always (record o { lock = Some true }))
    (must_lively Always 85 (codes "NLOCK") _ refl refl refl refl (gives_lively Always (record o { lock = Some false }))).further

abbrev no_option : Bool → Form (Option Options)
no_option needed = either needed refused (gives None)

no_option_onward : (needed : Bool) → Onward Always (no_option needed)
no_option_onward true = refused_onward Always
no_option_onward false = gives_onward Always None

option_lively : (needed : Bool) (o : Options) → Lively Always (option needed o)
unfolding option is_same
option_lively needed o =
    word_lively Always 80 (codes "ASSWORD") _ _ refl refl refl refl
    (λ x. seq_lively Always (password_option o) _ (password_option_lively o) (λ made. gives_lively Always (Some made)))
    (next_onward Always (Word (codes "FAILED_LOGIN_ATTEMPTS")) _ _
    (λ x. number_lively Always _ (λ n. gives_lively Always (Some (record o { attempts = Some (number_of n) }))))
    (next_onward Always (Word (codes "PASSWORD_LOCK_TIME")) _ _
    (λ x. seq_lively Always lock_time _ lock_time_lively (λ t. gives_lively Always (Some (record o { lock_time = Some t }))))
    (next_onward Always (Word (codes "ACCOUNT")) _ _
    (λ x. seq_lively Always (account_option o) _ (account_option_lively o) (λ made. gives_lively Always (Some made)))
    (no_option_onward needed))))

-- what no option begins with
abbrev NoOption : List Token → Type 0
NoOption u = Stops (option false) u

further_options_lively : (r : Option Options) → Lively NoOption (further_options r)
further_options_lively None = gives_lively NoOption no_options
further_options_lively (Some o) = many_lively (option false) option_repeats (λ s. (option_lively false s).further) o

options_lively : (needed : Bool) → Lively NoOption (options needed)
unfolding options
options_lively needed = seq_lively NoOption (option needed no_options) further_options (option_lively needed no_options) further_options_lively

over_lively : Lively AtEnd over
unfolding over
over_lively = sign_lively AtEnd 59 _ _ (sign_stands 59 refl refl refl refl) refl (λ x. ends_lively tt) (ends_onward AtEnd tt)

-- the end of a statement
abbrev Ended : Statement → Form Statement
Ended v = seq over (λ _. gives v)

ended_lively : (v : Statement) → Lively AtEnd (Ended v)
ended_lively v = seq_before AtEnd AtEnd over (λ _. gives v) over_lively (λ a. gives_onward AtEnd v)
    (λ a. record { next = []; stand = tt; value = v; reads = λ u q. refl; ends = λ u q. q })

ended_reads : (v : Statement) (u : List Token) → AtEnd u → (Ended v).read (sign 59 ∷ u) ≡ Ok (v, u)
unfolding over
ended_reads v u q = rw q refl

semicolon_stops : (u : List Token) → NoOption (sign 59 ∷ u)
unfolding option
semicolon_stops u s = refl

-- the options and the end of a statement
ended_options : (needed : Bool) (make : Options → Statement) → Lively AtEnd (seq (options needed) (λ o. Ended (make o)))
ended_options needed make =
    seq_before NoOption AtEnd (options needed) (λ o. Ended (make o)) (options_lively needed) (λ o. (ended_lively (make o)).further)
    (λ o. record {
      next = sign 59 ∷ [];
      stand = (sign_stands 59 refl refl refl refl, tt);
      value = make o;
      reads = λ u q. ended_reads (make o) u q;
      ends = λ u q. semicolon_stops u;
    })

numbered_lively : Lively Always numbered
unfolding numbered is_same
numbered_lively =
    word_lively Always 50 [] _ _ refl refl refl refl
    (λ x. must_lively Always 70 (codes "ACTOR") _ refl refl refl refl (gives_lively Always 2))
    (must_lively Always 51 [] _ refl refl refl refl (must_lively Always 70 (codes "ACTOR") _ refl refl refl refl (gives_lively Always 3))).further

discarded_lively : Lively Always discarded
unfolding discarded is_same
discarded_lively =
    must_lively Always 79 (codes "LD") _ refl refl refl refl (must_lively Always 80 (codes "ASSWORD") _ refl refl refl refl (gives_lively Always Discard))

change_lively : Lively Always change
unfolding change is_same
change_lively =
    word_lively Always 73 (codes "DENTIFIED") _ _ refl refl refl refl
    (λ x. seq_lively Always (auth true) _ (auth_lively true) (λ a. gives_lively Always (Password a)))
    (next_onward Always (Word (codes "DISCARD")) _ _ (λ x. discarded_lively)
    (next_onward Always (Word (codes "ADD")) _ _
    (λ x. seq_lively Always numbered _ numbered_lively (λ n. seq_lively Always factor _ factor_lively (λ f. gives_lively Always (Add n f))))
    (next_onward Always (Word (codes "MODIFY")) _ _
    (λ x. seq_lively Always numbered _ numbered_lively (λ n. seq_lively Always factor _ factor_lively (λ f. gives_lively Always (Modify n f))))
    (next_onward Always (Word (codes "DROP")) _ _
    (λ x. seq_lively Always numbered _ numbered_lively (λ n. gives_lively Always (DropFactor n)))
    (gives_onward Always Nothing)))))

own_change_lively : Lively Always own_change
unfolding own_change is_same
own_change_lively =
    word_lively Always 73 (codes "DENTIFIED") _ _ refl refl refl refl
    (λ x. must_lively Always 66 (codes "Y") _ refl refl refl refl
    (seq_lively Always (password true None) _ (password_lively true None) (λ a. gives_lively Always (Password a))))
    (must_lively Always 68 (codes "ISCARD") _ refl refl refl refl discarded_lively).further

target_lively : Lively Always target
unfolding target is_same
target_lively =
    word_lively Always 85 (codes "SER") _ _ refl refl refl refl
    (λ user. sign_lively Always 40 _ _ (sign_stands 40 refl refl refl refl) refl
    (λ x. just_lively Always (Sign 41) _ (sign 41) (sign_stands 41 refl refl refl refl) refl (gives_lively Always Own))
    (seq_lively Always (name_of user) _ (name_of_lively user) (λ n. gives_lively Always (Named n))).further)
    (seq_lively Always name _ name_lively (λ n. gives_lively Always (Named n))).further

ways_lively : Lively Always ways
unfolding ways is_same
ways_lively =
    word_lively Always 73 (codes "DENTIFIED") _ _ refl refl refl refl
    (λ x. seq_lively Always (auth false) _ (auth_lively false) (λ a. seq_lively Always factors _ factors_lively (λ fs. gives_lively Always (Some a, fs))))
    (gives_onward Always (None, []))

create_lively : Lively AtEnd create
unfolding create
create_lively = seq_lively AtEnd name _ name_lively (λ n. seq_lively AtEnd ways _ ways_lively (λ w. ended_options false (λ o. Create n w.0 w.1 o)))

alter_own_lively : Lively AtEnd alter_own
unfolding alter_own
alter_own_lively = seq_lively AtEnd own_change _ own_change_lively (λ c. ended_lively (Alter Own c no_options))

alter_named_lively : (n : Name) → Lively AtEnd (alter_named n)
unfolding alter_named
alter_named_lively n = seq_lively AtEnd change _ change_lively (λ c. ended_options (is_nothing c) (λ o. Alter (Named n) c o))

alter_of_lively : (t : Target) → Lively AtEnd (alter_of t)
alter_of_lively Own = alter_own_lively
alter_of_lively (Named n) = alter_named_lively n

alter_lively : Lively AtEnd alter
unfolding alter
alter_lively = seq_lively AtEnd target alter_of target_lively alter_of_lively

privilege_lively : (p : Privileges) → Lively Always (privilege p)
unfolding privilege is_same
privilege_lively p =
    word_lively Always 67 (codes "REATE") _ _ refl refl refl refl
    (λ x. must_lively Always 85 (codes "SER") _ refl refl refl refl (gives_lively Always (record p { create_user = true })))
    (must_lively Always 65 (codes "PPLICATION_PASSWORD_ADMIN") _ refl refl refl refl (gives_lively Always (record p { password_admin = true }))).further

further_privilege_lively : (p : Privileges) → Lively Always (further_privilege p)
unfolding further_privilege
further_privilege_lively p =
    sign_lively Always 44 _ _ (sign_stands 44 refl refl refl refl) refl
    (λ x. seq_lively Always (privilege p) _ (privilege_lively p) (λ made. gives_lively Always (Some made)))
    (gives_onward Always None)

-- what no further privilege begins with
abbrev NoPrivilege : List Token → Type 0
NoPrivilege u = Stops further_privilege u

privileges_lively : Lively NoPrivilege privileges
unfolding privileges
privileges_lively =
    seq_lively NoPrivilege (privilege (record { create_user = false; password_admin = false })) _
    (privilege_lively (record { create_user = false; password_admin = false }))
    (λ p. many_lively further_privilege privilege_repeats (λ s. (further_privilege_lively s).further) p)

on_all_lively : Lively Always on_all
unfolding on_all is_same
on_all_lively =
    must_lively Always 79 (codes "N") _ refl refl refl refl
    (just_lively Always (Sign 42) _ (sign 42) (sign_stands 42 refl refl refl refl) refl
    (just_lively Always (Sign 46) _ (sign 46) (sign_stands 46 refl refl refl refl) refl
    (just_lively Always (Sign 42) _ (sign 42) (sign_stands 42 refl refl refl refl) refl (gives_lively Always tt))))

-- a name and the end of a statement
named_lively : (make : Name → Statement) → Lively AtEnd (seq name (λ n. Ended (make n)))
named_lively make = seq_lively AtEnd name _ name_lively (λ n. ended_lively (make n))

on_stops : (u : List Token) → NoPrivilege (word (codes "ON") ∷ u)
unfolding further_privilege
on_stops u s = refl

to_lively : (p : Privileges) → Lively AtEnd (seq on_all (λ _. just (Word (codes "TO")) (seq name (λ n. Ended (Grant p n)))))
unfolding is_same
to_lively p = seq_lively AtEnd on_all _ on_all_lively (λ u. must_lively AtEnd 84 (codes "O") _ refl refl refl refl (named_lively (λ n. Grant p n)))

from_lively : (p : Privileges) → Lively AtEnd (seq on_all (λ _. just (Word (codes "FROM")) (seq name (λ n. Ended (Revoke p n)))))
unfolding is_same
from_lively p = seq_lively AtEnd on_all _ on_all_lively (λ u. must_lively AtEnd 70 (codes "ROM") _ refl refl refl refl (named_lively (λ n. Revoke p n)))

-- ON *.* and a word and a name
abbrev on_all_of : Token → List Token
on_all_of t = word (codes "ON") ∷ sign 42 ∷ sign 46 ∷ sign 42 ∷ t ∷ word (codes "a") ∷ []

on_all_stand : (t : Token) → Stands t → AllStand (on_all_of t)
on_all_stand t h = (
  word_stands 79 (codes "N") refl refl refl,
  (
    sign_stands 42 refl refl refl refl,
    (
      sign_stands 46 refl refl refl refl,
      (sign_stands 42 refl refl refl refl, (h, (a_stands, tt))),
    ),
  ),
)

abbrev a_name : Name
a_name = record { user = codes "a"; host = Any }

to_reads : (p : Privileges) (u : List Token) → AtEnd u
    → (seq on_all (λ _. just (Word (codes "TO")) (seq name (λ n. Ended (Grant p n))))).read (on_all_of (word (codes "TO")) ++ u) ≡ Ok (Grant p a_name, u)
unfolding on_all name host over is_same
to_reads p u q = rw q refl

from_reads : (p : Privileges) (u : List Token) → AtEnd u
    → (seq on_all (λ _. just (Word (codes "FROM")) (seq name (λ n. Ended (Revoke p n))))).read (on_all_of (word (codes "FROM")) ++ u) ≡ Ok (Revoke p a_name, u)
unfolding on_all name host over is_same
from_reads p u q = rw q refl

grant_lively : Lively AtEnd grant
unfolding grant
grant_lively =
    seq_before NoPrivilege AtEnd privileges _ privileges_lively (λ p. (to_lively p).further)
    (λ p. record {
      next = on_all_of (word (codes "TO"));
      stand = on_all_stand (word (codes "TO")) (word_stands 84 (codes "O") refl refl refl);
      value = Grant p a_name;
      reads = to_reads p;
      ends = λ u q. on_stops (sign 42 ∷ sign 46 ∷ sign 42 ∷ word (codes "TO") ∷ word (codes "a") ∷ u);
    })

revoke_lively : Lively AtEnd revoke
unfolding revoke
revoke_lively =
    seq_before NoPrivilege AtEnd privileges _ privileges_lively (λ p. (from_lively p).further)
    (λ p. record {
      next = on_all_of (word (codes "FROM"));
      stand = on_all_stand (word (codes "FROM")) (word_stands 70 (codes "ROM") refl refl refl);
      value = Revoke p a_name;
      reads = from_reads p;
      ends = λ u q. on_stops (sign 42 ∷ sign 46 ∷ sign 42 ∷ word (codes "FROM") ∷ word (codes "a") ∷ u);
    })

dropped_lively : Lively AtEnd dropped
unfolding dropped
dropped_lively = named_lively (λ n. Drop n)

flushed_lively : Lively AtEnd flushed
unfolding flushed is_same
flushed_lively = must_lively AtEnd 80 (codes "RIVILEGES") _ refl refl refl refl (ended_lively Flush)

pub statement_lively : Lively AtEnd statement
unfolding statement is_same
statement_lively =
    word_lively AtEnd 67 (codes "REATE") _ _ refl refl refl refl (λ x. must_lively AtEnd 85 (codes "SER") create refl refl refl refl create_lively)
    (next_onward AtEnd (Word (codes "ALTER")) _ _ (λ x. must_lively AtEnd 85 (codes "SER") alter refl refl refl refl alter_lively)
    (next_onward AtEnd (Word (codes "DROP")) _ _ (λ x. must_lively AtEnd 85 (codes "SER") dropped refl refl refl refl dropped_lively)
    (next_onward AtEnd (Word (codes "FLUSH")) _ _ (λ x. flushed_lively)
    (next_onward AtEnd (Word (codes "GRANT")) _ _ (λ x. grant_lively)
    (must_lively AtEnd 82 (codes "EVOKE") revoke refl refl refl refl revoke_lively).further))))
