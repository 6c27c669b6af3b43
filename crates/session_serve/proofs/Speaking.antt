-- What a session says when it is given an input.
use Rattle.std.proofs.Common.{◌≡◌, refl, sym, ap, ◌∙◌, subst, ℕ, List, [], take, drop, Option, Result, Ok, Err, IfErr, IfOk, OnOk}
use Rattle.std.proofs.lemmas.List.{take-append-drop}
use Rattle.lg_outside.specs.Traffic.{Traffic}
use Rattle.interaction.specs.Talk.{Says, Hears, Asks, Over}
use Rattle.link_packets.specs.Moving.{Moved}
use Rattle.link_packets.specs.Writing as writing
use Rattle.link_packets.specs.Writing.{Fails}
use Rattle.link_packets.specs.declared.writing.WriteEnd.{WriteEnd}
use Rattle.link_packets.specs.declared.writing.WriteEnd.TheVariants as write_end
use Rattle.packet_stream.specs.Packing.{packets_text}
use Rattle.packet_stream.specs.Sent.{id_behind_all, sent_from}
use Rattle.serve_talk.specs.declared.endings.Ending.{Ending}
use Rattle.serve_talk.specs.declared.endings.Ending.TheVariants.{Told, BookEnd}
use Rattle.session_talk.specs.Runs.{IsLive, Standing, stands_on}
use Rattle.session_talk.specs.Talk.{SessionTalk}
use Rattle.session_talk.specs.Turns.{Acts, IsBegun, asked, heard, question, said, wanted_by}
use Rattle.session_talk.specs.declared.actions.Action.{Action}
use Rattle.session_talk.specs.declared.actions.Ask.{Ask}
use Rattle.session_talk.specs.declared.ends.SessionEnd.TheVariants as end
use Rattle.session_talk.specs.declared.inputs.Input.{Input}
use Rattle.session_serve.specs.Saying as saying
use Rattle.session_serve.specs.Saying.{Broke, Finishes, IsCut, IsNext, IsOn, Said, due_on}

-- ## Writing

-- a write that failed wrote a part
pub failed_cut : (due : List ℕ) (before after : Option Traffic) (Rises : Type 0) (e : WriteEnd) → Fails due before after Rises e → e ≡ write_end.Failed → IsCut due before after Rises (Told end.LinkFault)
failed_cut due before after Rises _ (writing.cut count moved rises) is =
    saying.cut end.LinkFault (take count due) (drop count due) moved (sym (take-append-drop count due)) rises
failed_cut due before after Rises _ (writing.unwritten moved) is = absurd (cc)

-- without memory nothing was written
pub unwritten_cut : (due : List ℕ) (before after : Option Traffic) (Rises : Type 0) (e : WriteEnd) → Fails due before after Rises e → e ≡ write_end.Memory → IsCut due before after Rises (Told end.Memory)
unwritten_cut due before after Rises _ (writing.cut count moved rises) is = absurd (cc)
unwritten_cut due before after Rises _ (writing.unwritten moved) is = saying.cut end.Memory [] due moved refl tt

-- ## Giving

on_live : (next : ℕ) (t : SessionTalk) → IsBegun t → IsOn (asked next t) → IsLive t
unfolding question wanted_by
on_live next (Says payload t) begun on = absurd begun
on_live next (Hears anew k) begun on = tt
on_live next (Asks q k) begun on = tt
on_live next (Over how) begun on = absurd on

module _ (next after_next : ℕ) (t later : SessionTalk) (given : Input) (action : Action) (acts : Acts next t given action after_next later) where
  abbrev s : Standing
  s = record { next = next; at = t }

  abbrev z : Standing
  z = record { next = after_next; at = later }

  due_is : packets_text (sent_from action.first action.send) ≡ due_on s given
  due_is =
      ap (λ (l : List (List ℕ)). packets_text (sent_from action.first l)) acts.sends
      ∙ ap (λ (n : ℕ). packets_text (sent_from n (said (heard t given)))) acts.first

  stands_is : z ≡ stands_on s given
  stands_is =
      ap (λ (n : ℕ). let x : Standing = record { next = n; at = later } in x)
      (acts.next_is ∙ (ap (λ (l : List (List ℕ)). id_behind_all action.first l) acts.sends ∙ ap (λ (n : ℕ). id_behind_all n (said (heard t given))) acts.first))
      ∙ ap (λ (u : SessionTalk). let x : Standing = record { next = (stands_on s given).next; at = u } in x) acts.goes_on

  module _ (before after : Option Traffic) (Rises : Type 0) where
    said_next : (asks : Ask) → asks ≡ action.ask → (r : Result Ask Ending) → IsNext asks r → Moved before after [] (packets_text (sent_from action.first action.send)) →
        IfOk r (Said s given z before after) × IfErr r (Broke s given before after Rises)
    said_next asks same (Ok got) (is, on) moved = (
      record {
        stands = stands_is;
        moved = subst (λ (l : List ℕ). Moved before after [] l) due_is moved;
        asks = is ∙ (same ∙ acts.asks);
        begun = acts.begun;
        live = on_live after_next later acts.begun (subst (λ (a : Ask). IsOn a) (same ∙ acts.asks) on);
      },
      tt,
    )
    said_next asks same (Err (Told how)) is moved = (
      tt,
      saying.over how (subst (λ (l : List ℕ). Moved before after [] l) due_is moved)
          (ap (λ (x : Standing). asked x.next x.at) (sym stands_is) ∙ (sym (same ∙ acts.asks) ∙ is)),
    )
    said_next asks same (Err BookEnd) is moved = absurd is

    broke_cut : (how : Ending) → IsCut (packets_text (sent_from action.first action.send)) before after Rises how → Broke s given before after Rises how
    broke_cut _ (saying.cut how text unwritten moved due cause) = saying.unsaid how text unwritten moved (sym due_is ∙ due) cause

    pub given_said : (w : Result (Unit {0}) Ending) (asks : Ask) (r : Result Ask Ending) → asks ≡ action.ask → Finishes w asks r →
        OnOk w (Moved before after [] (packets_text (sent_from action.first action.send))) →
        IfErr w (IsCut (packets_text (sent_from action.first action.send)) before after Rises) →
        IfOk r (Said s given z before after) × IfErr r (Broke s given before after Rises)
    given_said (Ok x) asks r same finishes moved cut = said_next asks same r finishes moved
    given_said (Err how) asks r same finishes moved cut =
        subst (λ (o : Result Ask Ending). IfOk o (Said s given z before after) × IfErr o (Broke s given before after Rises)) (sym finishes) (tt, broke_cut how cut)

-- the session had no memory
pub unheard : (s : Standing) (given : Input) (before : Option Traffic) (Rises : Type 0) (how : Ending) → Moved before before [] [] → how ≡ Told end.Memory → Broke s given before before Rises how
unheard s given before Rises how moved is =
    subst (λ (e : Ending). Broke s given before before Rises e) (sym is) (saying.unsaid end.Memory [] (due_on s given) moved refl tt)
