use Rattle.std.proofs.Common.{List, ◌++◌, None, sym, ap, ◌∙◌, subst, option_to_list, append-nil}
use Rattle.turn_book.proofs.Turning.{applied_entry, may_pass, turn_over, list_before, start_before}
use Rattle.turn_book.proofs.Moves.{start_or}
use Rattle.turn_book.proofs.seat.TurnBook.turn_at.Goals as goal

pub pass-requires-clause-held : goal.pass-requires-clause-held
pass-requires-clause-held g c =
    let took = c.take.ensures.took in
    let drawn = c.in-Some.ensures.some.1 in
    let held = c.apply-result.ensures.held took.object (ap (λ m. m.1) took.now) in
    let x = applied_entry g.O.Object.start g.O.Object.entries g.O.Object.opening g.O.Applies.makes g.O.Applies.answers g.O.Applies.refused took.object c.args.call.now c.apply-result.new.call held.0 c.apply-result.result held.2 in (
      held.0,
      ap (λ m. m.1) held.1,
      may_pass g.O.Object.start g.O.Object.entries g.O.Object.opening c.in-Some.ticket c.args.place.now.me.0 c.draw.new.place.me c.take.new.place.me drawn took held.0 c.apply-result.new.place.me.0 (ap (λ m. m.0) held.1) c.requires.ready.3 x.0 x.1.0 x.1.1,
    )

pub returns-in-Ok-clause-ok : goal.returns-in-Ok-clause-ok
returns-in-Ok-clause-ok g c =
    let took = c.take.ensures.took in
    let drawn = c.in-Some.ensures.some.1 in
    let held = c.in-Ok.ensures.held took.object (ap (λ m. m.1) took.now) in
    let z = held.0 in
    let passed = c.pass.ensures.passed z (ap (λ m. m.1) held.1) in
    let v = c.args.place.now.me.0 in
    let list = list_before g.O.Object.start g.O.Object.entries g.O.Object.opening c.in-Some.ticket v c.draw.new.place.me c.take.new.place.me drawn took z in
    let begun = start_before g.O.Object.start g.O.Object.entries g.O.Object.opening c.in-Some.ticket v c.draw.new.place.me c.take.new.place.me drawn took z in
    let start_is = ap (start_or (g.O.Object.start took.object)) (sym begun ∙ c.requires.begun) in
    let added = held.2.1 ∙ ap (λ e. g.O.Object.entries took.object ++ option_to_list e) (λ k. g.O.Applies.makes (start_is k) (list k) c.apply-result.new.call c.in-Ok.reply) in (
      took.others,
      turn_over g.O.Object.start g.O.Object.entries g.O.Object.opening c.in-Some.ticket v c.draw.new.place.me c.take.new.place.me drawn took z c.apply-result.new.place.me c.pass.new.place.me (ap (λ m. m.0) held.1) _ added passed c.requires.ready.3 c.in-Some.ensures.some.2,
      (let told = held.2.2 in subst {A = g.row.O-Start.Denot × List g.row.O-Entry.Denot} (λ p. g.O.Applies.answers p.0 p.1 c.args.call.now c.apply-result.new.call c.in-Ok.reply) (λ k. (start_is k, list k)) told),
    )

pub returns-in-Err-clause-memory : goal.returns-in-Err-clause-memory
returns-in-Err-clause-memory g c _ =
    let took = c.take.ensures.took in
    let drawn = c.in-Some.ensures.some.1 in
    let held = c.in-Err.ensures.held took.object (ap (λ m. m.1) took.now) in
    let z = held.0 in
    let passed = c.pass.ensures.passed z (ap (λ m. m.1) held.1) in
    let v = c.args.place.now.me.0 in
    let list = list_before g.O.Object.start g.O.Object.entries g.O.Object.opening c.in-Some.ticket v c.draw.new.place.me c.take.new.place.me drawn took z in
    let begun = start_before g.O.Object.start g.O.Object.entries g.O.Object.opening c.in-Some.ticket v c.draw.new.place.me c.take.new.place.me drawn took z in
    let start_is = ap (start_or (g.O.Object.start took.object)) (sym begun ∙ c.requires.begun) in
    let same = held.2.1 ∙ sym (append-nil (g.O.Object.entries took.object)) in (
      took.others,
      turn_over g.O.Object.start g.O.Object.entries g.O.Object.opening c.in-Some.ticket v c.draw.new.place.me c.take.new.place.me drawn took z c.apply-result.new.place.me c.pass.new.place.me (ap (λ m. m.0) held.1) None same passed c.requires.ready.3 c.in-Some.ensures.some.2,
      (let told = held.2.2 in subst {A = g.row.O-Start.Denot × List g.row.O-Entry.Denot} (λ p. g.O.Applies.refused p.0 p.1 c.args.call.now c.apply-result.new.call) (λ k. (start_is k, list k)) told),
    )
