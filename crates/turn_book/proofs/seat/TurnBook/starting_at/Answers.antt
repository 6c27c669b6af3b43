use Rattle.std.proofs.Common.{◌≡◌, [], ◌∷◌, ◌++◌, sym, ap, ◌∙◌, subst, rules}
use Rattle.turn_book.specs.Views.{opened_at, first_view}
use Rattle.turn_book.specs.Rule.{Kept}
use Rattle.atomic_table.specs.Table.{opening}
use Rattle.turn_book.proofs.Moves.{starts}
use Rattle.turn_book.proofs.seat.TurnBook.starting_at.Goals as goal

pub new-requires : goal.new-requires
new-requires g c =
    let object : c.of.result.value ≡ c.args.object = search rules in
    let none_yet : c.new-slots.result.items ≡ [] = search rules in
    let slots : c.push.new.self.items ≡ c.args.object ∷ [] = c.in_ok-push.ensures.items ∙ ap (λ l. l ++ c.args.object ∷ []) none_yet in
    subst (λ l. Kept g.O.Object.start g.O.Object.entries g.O.Object.opening (opening (c.args.drawn ∷ c.args.drawn ∷ []) l (opened_at c.args.drawn (first_view (g.O.Object.start c.of.result.value) (g.O.Object.entries c.of.result.value))))) (sym slots)
    (subst (λ y. Kept g.O.Object.start g.O.Object.entries g.O.Object.opening (opening (c.args.drawn ∷ c.args.drawn ∷ []) (c.args.object ∷ []) (opened_at c.args.drawn (first_view (g.O.Object.start y) (g.O.Object.entries y))))) (sym object)
    (starts g.O.Object.start g.O.Object.entries g.O.Object.opening c.args.drawn c.args.object c.requires.drawn c.requires.opening))
