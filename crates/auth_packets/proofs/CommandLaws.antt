-- Commands meet the laws of forms.
use Rattle.std.proofs.Common.{◌≡◌, ℕ, ◌<◌, ◌==◌, List, [], ◌∷◌, ◌++◌, length, Option, Some, None, Result, refl, ap, ◌∙◌, subst, append_assoc, mod-eq_of_lt, ne_eqb, arith}
use Rattle.std.proofs.lemmas.List.Elements.{All-nil}
use Rattle.lg_base.specs.Fields.{little_text}
use Rattle.wire_form.specs.Payloads.{Gives, IsReadAs, start}
use Rattle.wire_form.proofs.Laws.{IsForm}
use Rattle.wire_form.proofs.Numbers.{number-lawful}
use Rattle.wire_form.proofs.OneByte.{byte-lawful}
use Rattle.wire_form.proofs.Names.{name-lawful}
use Rattle.wire_form.proofs.Made.{mark-lawful, ▸-lawful, counted-lawful}
use Rattle.wire_form.proofs.Whole.{rest-lawful, nothing-lawful, whole-lawful, either-lawful, by_first-lawful, ▹-lawful}
use Rattle.wire_form.proofs.Payloads.{read_as}
use Rattle.auth_packets.specs.Faults.{malformed_at}
use Rattle.auth_packets.specs.Commands.{IsWholeChange, IsWholeCommand, change_user, change_text, bare, query, change, other, no_command, command_by, code_of, command, command_text}
use Rattle.auth_packets.specs.declared.fault.PacketFault.{PacketFault}
use Rattle.auth_packets.specs.declared.commands.ChangeUser.{ChangeUser}
use Rattle.auth_packets.specs.declared.commands.Command.{Command}
use Rattle.auth_packets.specs.declared.commands.Command.TheVariants.{Quit, Query, Ping, Reset, ChangeUser as Change, Other, Nothing}

pub change-lawful : IsForm change_user
unfolding change_user
change-lawful = whole-lawful _ _ _ (▹-lawful _ _ (▸-lawful _ _ (mark-lawful 0x11 (omega arith)) (▸-lawful _ _ name-lawful
    (▸-lawful _ _ (counted-lawful _ (number-lawful 1)) name-lawful))) rest-lawful)

pub change_read : (payload : List ℕ) (result : Result ChangeUser PacketFault) →
    Gives malformed_at result (change_user.read (start payload)) → IsReadAs malformed_at change_user.Spells payload result
change_read = read_as change_user change-lawful malformed_at

joined : (a u l x d r : List ℕ) → (a ++ (u ++ ((l ++ x) ++ d))) ++ r ≡ a ++ u ++ l ++ x ++ d ++ r
joined a u l x d r = simp append_assoc

pub change_spelled : (v : ChangeUser) → IsWholeChange v → change_user.Spells v (change_text v)
unfolding change_user change_text
change_spelled v is_whole =
    subst (λ (text : List ℕ). change_user.Spells v text) written
    (change-lawful.written v ((((refl, refl), (is_whole.0, (((is_whole.1, refl), refl), is_whole.2))), tt), refl))
  where
    written : change_user.write v ≡ change_text v
    written =
        joined (0x11 ∷ []) (v.user ++ 0 ∷ []) (little_text 1 (length v.auth)) v.auth (v.database ++ 0 ∷ []) v.rest
        ∙ ap (λ (n : ℕ). 0x11 ∷ [] ++ (v.user ++ 0 ∷ []) ++ n ∷ [] ++ v.auth ++ (v.database ++ 0 ∷ []) ++ v.rest) (mod-eq_of_lt is_whole.1)

-- ## Commands

quit-lawful : (code : ℕ) (c : Command) → code < 256 → IsForm (bare code c)
quit-lawful code c small = whole-lawful _ _ _ (▹-lawful _ _ (mark-lawful code small) rest-lawful)

query-lawful : IsForm query
unfolding query
query-lawful = whole-lawful _ _ _ (▹-lawful _ _ (mark-lawful 0x03 (omega arith)) rest-lawful)

to_change-lawful : IsForm change
unfolding change
to_change-lawful = whole-lawful _ _ _ change-lawful

other-lawful : IsForm other
unfolding other
other-lawful = whole-lawful _ _ _ (▹-lawful _ _ (byte-lawful _ 0 (omega arith) refl) rest-lawful)

no_command-lawful : IsForm no_command
unfolding no_command
no_command-lawful = whole-lawful _ _ _ nothing-lawful

command_by-lawful : (o : Option ℕ) → IsForm (command_by o)
command_by-lawful None = no_command-lawful
command_by-lawful (Some b) =
    either-lawful (b == 0x01) _ _ (quit-lawful 0x01 Quit (omega arith))
    (either-lawful (b == 0x03) _ _ query-lawful
    (either-lawful (b == 0x0e) _ _ (quit-lawful 0x0e Ping (omega arith))
    (either-lawful (b == 0x1f) _ _ (quit-lawful 0x1f Reset (omega arith))
    (either-lawful (b == 0x11) _ _ to_change-lawful other-lawful))))

pub command-lawful : IsForm command
unfolding command no_command
command-lawful = by_first-lawful command_by code_of command_by-lawful (Nothing, [], All-nil (λ x. x < 256), (tt, refl, refl))

pub command_read : (payload : List ℕ) (result : Result Command PacketFault) →
    Gives malformed_at result (command.read (start payload)) → IsReadAs malformed_at command.Spells payload result
command_read = read_as command command-lawful malformed_at

pub command_spelled : (v : Command) → IsWholeCommand v → command.Spells v (command_text v)
unfolding command command_text query change other no_command change_text
command_spelled Quit is_whole = (((tt, []), (0x01 ∷ [], [], (0x01, (refl, refl), refl), refl, refl), refl))
command_spelled (Query text) is_whole = (((tt, text), (0x03 ∷ [], text, (0x03, (refl, refl), refl), refl, refl), refl))
command_spelled Ping is_whole = (((tt, []), (0x0e ∷ [], [], (0x0e, (refl, refl), refl), refl, refl), refl))
command_spelled Reset is_whole = (((tt, []), (0x1f ∷ [], [], (0x1f, (refl, refl), refl), refl, refl), refl))
command_spelled (Change v) is_whole = (v, change_spelled v is_whole, refl)
command_spelled (Other b) is_whole =
    rw (ne_eqb b 0x01 is_whole.0, ne_eqb b 0x03 is_whole.1, ne_eqb b 0x0e is_whole.2, ne_eqb b 0x1f is_whole.3, ne_eqb b 0x11 is_whole.4)
    (((b, []), (b ∷ [], [], (refl, refl), refl, refl), refl))
command_spelled Nothing is_whole = (tt, refl, refl)
