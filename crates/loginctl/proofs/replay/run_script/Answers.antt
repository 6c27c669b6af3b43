use Rattle.std.proofs.Common.{◌≡◌, ◌∙◌, ap, sym, ℕ, suc, ◌+◌, ◌<◌, ◌++◌, ◌∷◌, List, length, drop, slice_index_or, append_assoc, arith}
use Rattle.std.proofs.Math.Numerals.{add-one}
use Rattle.std.proofs.Math.Seq.{drop-cons}
use Rattle.script_text.specs.declared.event.Event.{Event}
use Rattle.session_world.specs.Replays.{Replay, after_events, happens, printed_text, text_of}
use Rattle.loginctl.proofs.replay.run_script.Goals as goal

pub events-preserved : goal.events-preserved
events-preserved c =
    let w : Replay = c.events.invariant.0 in
    let events : List Event = c.args.script.now.events in
    let event : Event = c.event-item.result in
    let next : Replay = (happens w event).replay in
    let rest : List Event = drop (c.events.event-index + 1) c.args.script.now.events in
    let is : c.event-item.result ≡ slice_index_or c.args.script.now.events c.events.event-index c.event-item.result =
    c.event-item.is ∙ ap (λ (es : List Event). slice_index_or es c.events.event-index c.event-item.result) c.events-event-items.ensures.same in
    let long : length c.events-event-items.result.now ≡ length c.args.script.now.events = ap (λ (es : List Event). length es) c.events-event-items.ensures.same in
    let short : c.events.event-index < length c.args.script.now.events = omega (arith, long, c.events-test.true) in
    let left : drop c.events.event-index c.args.script.now.events ≡ c.event-item.result ∷ drop (c.events.event-index + 1) c.args.script.now.events =
    drop-cons events c.events.event-index event short
    ∙ ap (λ (e : Event). e ∷ drop (suc c.events.event-index) events) (sym is)
    ∙ ap (λ (n : ℕ). event ∷ drop n events) (sym (add-one c.events.event-index)) in (
      next,
      c.in_ok-step.ensures.left w c.events.invariant.1,
      ap (λ (out : List ℕ). out ++ text_of next rest) (c.in_ok-step.ensures.printed w c.events.invariant.1)
          ∙ append_assoc c.events.out (printed_text (happens w event).printed) (text_of next rest)
          ∙ ap (λ (es : List Event). c.events.out ++ text_of w es) (sym left)
          ∙ c.events.invariant.2,
      ap (λ (es : List Event). after_events w es) (sym left) ∙ c.events.invariant.3,
    )
