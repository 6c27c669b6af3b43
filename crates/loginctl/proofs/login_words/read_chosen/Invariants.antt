-- The words that are left choose on what all words choose.
use Rattle.std.proofs.Common.{◌≡◌, length}
use Rattle.std.specs.Prelude.{map, string_bytes}
use Rattle.loginctl.specs.LoginWords.{choice_of, chosen_by, no_choice}
use Rattle.loginctl.proofs.login_words.read_chosen.Given as goal

abbrev pub invariant-options : goal.invariant-options
invariant-options l = chosen_by (choice_of l.chosen) (map string_bytes l.rest) ≡ chosen_by no_choice (map string_bytes l.fn.words)

abbrev pub decreases-options : goal.decreases-options
decreases-options l = length l.rest
