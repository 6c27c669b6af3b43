-- Reading ends with the last input that is answered, and what is said of that end.
use Rattle.std.proofs.Common.{◌≡◌, refl, ap, sym, ◌∙◌, subst, inl, inr, ◌⊎◌, IsTrue, ℕ, Bool, List, [], ◌∷◌, ◌++◌, Option, Some, None, append_assoc, append-nil}
use Rattle.packet_frame.specs.Packets.{id_after}
use Rattle.packet_frame.specs.declared.packets.FrameFault.{FrameFault}
use Rattle.packet_frame.specs.declared.packets.FrameFault.TheVariants.{TooLarge, OutOfOrder, Memory as NoMemory}
use Rattle.packet_stream.specs.Sent.{Sent, sent_from}
use Rattle.interaction.specs.Talk.{Reading, Hears, Asks, Over}
use Rattle.session_talk.specs.declared.ends.SessionEnd.{SessionEnd}
use Rattle.session_talk.specs.declared.ends.SessionEnd.TheVariants as end
use Rattle.session_talk.specs.declared.inputs.Input.{Input}
use Rattle.session_talk.specs.declared.inputs.Input.TheVariants as input
use Rattle.session_talk.specs.Laws.{RunsEndAsOwed}
use Rattle.session_talk.specs.Logins.{faulted}
use Rattle.session_talk.specs.Owed.{Owed, after_all_sent, owed}
use Rattle.session_talk.specs.Runs.{AllAnswer, EachAnswers, IsLive, IsOpen, Standing, ending_by, owns_in, packets_in, sent_on, spoken, stands_after, stands_on}
use Rattle.session_talk.specs.Talk.{SessionTalk}
use Rattle.session_talk.specs.Turns.{IsAsked, heard, is_answer, rest, said, wanted_by}
use Rattle.session_talk.proofs.Asking.{own_answer, untrue}
use Rattle.session_talk.proofs.Running.{at, runs_are_owed}

-- ## The last one

-- nothing is answered once a session has ended
none_after : (next : ℕ) (how : SessionEnd) (inputs : List Input) → EachAnswers (at next (Over how)) inputs → inputs ≡ []
none_after next how [] each = refl
none_after next how (given ∷ inputs) each = absurd each.0

none_after_fault : (next : ℕ) (fault : FrameFault) (inputs : List Input) → EachAnswers (at next (rest (faulted fault))) inputs → inputs ≡ []
unfolding rest
none_after_fault next (TooLarge place) inputs each = none_after next _ inputs each
none_after_fault next (OutOfOrder place want got) inputs each = none_after next _ inputs each
none_after_fault next NoMemory inputs each = none_after next _ inputs each

abbrev EndsLast : Standing → List Input → Type 0
EndsLast s inputs =
    AllAnswer s inputs
    ⊎ ((before : List Input) × (last : Input) × (t : SessionTalk) × (inputs ≡ before ++ last ∷ []) × AllAnswer s before × (ending_by last ≡ Some t))

longer : (s : Standing) (given : Input) (inputs : List Input) → IsOpen given → IsLive s.at → IsTrue (is_answer s.at given) → IsAsked s.at given →
    EndsLast (stands_on s given) inputs → EndsLast s (given ∷ inputs)
longer s given inputs opens live is asked (inl all) = inl (opens, live, is, asked, all)
longer s given inputs opens live is asked (inr e) =
    inr (given ∷ e.0, e.1, e.2, ap (λ (more : List Input). given ∷ more) e.3, (opens, live, is, asked, e.4), e.5)

alone : (s : Standing) (given : Input) (inputs : List Input) (t : SessionTalk) → inputs ≡ [] → ending_by given ≡ Some t → EndsLast s (given ∷ inputs)
alone s given inputs t e by = inr ([], given, t, ap (λ (more : List Input). given ∷ more) e, tt, by)

ends_last : (inputs : List Input) (next : ℕ) (t : SessionTalk) → EachAnswers (at next t) inputs → EndsLast (at next t) inputs
unfolding heard is_answer rest
ends_last [] next t each = inl tt
ends_last (input.Frame fault ∷ inputs) next (Hears anew k) each =
    alone (at next (Hears anew k)) (input.Frame fault) inputs (faulted fault) (none_after_fault _ fault inputs each.3) refl
ends_last (input.End cut ∷ inputs) next (Hears anew k) each =
    alone (at next (Hears anew k)) (input.End cut) inputs _ (none_after _ _ inputs each.3) refl
ends_last (input.LinkFailed ∷ inputs) next (Hears anew k) each =
    alone (at next (Hears anew k)) input.LinkFailed inputs _ (none_after _ _ inputs each.3) refl
ends_last (input.Frame fault ∷ inputs) next (Over how) each = absurd each.0
ends_last (input.Frame fault ∷ inputs) next (Asks q k) each = absurd (untrue (own_answer q (input.Frame fault) each.1).1)
ends_last (input.Frame fault ∷ inputs) next t each = absurd (untrue each.1)
ends_last (input.End cut ∷ inputs) next (Over how) each = absurd each.0
ends_last (input.End cut ∷ inputs) next (Asks q k) each = absurd (untrue (own_answer q (input.End cut) each.1).1)
ends_last (input.End cut ∷ inputs) next t each = absurd (untrue each.1)
ends_last (input.LinkFailed ∷ inputs) next (Over how) each = absurd each.0
ends_last (input.LinkFailed ∷ inputs) next (Asks q k) each = absurd (untrue (own_answer q input.LinkFailed each.1).1)
ends_last (input.LinkFailed ∷ inputs) next t each = absurd (untrue each.1)
ends_last (given ∷ inputs) next t each =
    longer (at next t) given inputs tt each.0 each.1 each.2 (ends_last inputs _ _ each.3)

-- ## What is told of it

spoken_more : (before : List Input) (last : Input) (s : Standing) → spoken s (before ++ last ∷ []) ≡ spoken s before ++ sent_on (stands_after s before) last
spoken_more [] last s = append-nil (sent_on s last)
spoken_more (given ∷ before) last s =
    ap (λ (sent : List Sent). sent_on s given ++ sent) (spoken_more before last (stands_on s given))
    ∙ sym (append_assoc (sent_on s given) (spoken (stands_on s given) before) _)

stands_more : (before : List Input) (last : Input) (s : Standing) → stands_after s (before ++ last ∷ []) ≡ stands_on (stands_after s before) last
stands_more [] last s = refl
stands_more (given ∷ before) last s = stands_more before last (stands_on s given)

-- what is told at a talk, where so much was sent before and this is owed
abbrev Told : (next : ℕ) → SessionTalk → Input → SessionTalk → List Sent → Owed → Type 0
Told next u last t sent o =
    (sent ++ sent_on (at next u) last ≡ o.sent ++ sent_from (id_after (wanted_by o.next o.at)) (said t))
    × (rest (heard u last) ≡ rest t)
    × (o.unread ≡ []) × (o.unused ≡ [])

the_talk : SessionTalk → Option SessionTalk → SessionTalk
the_talk t None = t
the_talk t (Some u) = u

same_talk : (t u : SessionTalk) → Some t ≡ Some u → t ≡ u
unfolding the_talk
same_talk t u e = ap (the_talk t) e

module _ (next : ℕ) (anew : Bool) (k : Reading → SessionTalk) (sent : List Sent) where
  -- what is owed where a packet is waited for
  abbrev waiting : Owed
  waiting = after_all_sent sent (owed next (Hears anew k) [] [])

  tells_fault : (fault : FrameFault) → Told next (Hears anew k) (input.Frame fault) (faulted fault) sent waiting
  unfolding owed heard
  tells_fault fault =
      (ap (λ (before : List Sent). before ++ sent_on (at next (Hears anew k)) (input.Frame fault)) (sym (append-nil sent)), refl, refl, refl)

  tells_end : (cut : Bool) → Told next (Hears anew k) (input.End cut) (Over (end.PeerClosed cut)) sent waiting
  unfolding owed heard said
  tells_end cut = (sym (append-nil (sent ++ [])), refl, refl, refl)

  tells_failure : Told next (Hears anew k) input.LinkFailed (Over end.LinkFault) sent waiting
  unfolding owed heard said
  tells_failure = (sym (append-nil (sent ++ [])), refl, refl, refl)

told_at : (last : Input) (next : ℕ) (u t : SessionTalk) (sent : List Sent) → IsLive u → IsTrue (is_answer u last) → ending_by last ≡ Some t →
    Told next u last t sent (after_all_sent sent (owed next u [] []))
unfolding is_answer
told_at (input.Frame fault) next (Hears anew k) t sent live is by = subst (λ (v : SessionTalk). Told next (Hears anew k) (input.Frame fault) v sent (waiting next anew k sent)) (same_talk _ _ by) (tells_fault next anew k sent fault)
told_at (input.End cut) next (Hears anew k) t sent live is by = subst (λ (v : SessionTalk). Told next (Hears anew k) (input.End cut) v sent (waiting next anew k sent)) (same_talk _ _ by) (tells_end next anew k sent cut)
told_at input.LinkFailed next (Hears anew k) t sent live is by = subst (λ (v : SessionTalk). Told next (Hears anew k) input.LinkFailed v sent (waiting next anew k sent)) (same_talk _ _ by) (tells_failure next anew k sent)
told_at (input.Frame fault) next (Over how) t sent live is by = absurd live
told_at (input.Frame fault) next (Asks q k) t sent live is by = absurd (untrue (own_answer q (input.Frame fault) is).1)
told_at (input.Frame fault) next u t sent live is by = absurd (untrue is)
told_at (input.End cut) next (Over how) t sent live is by = absurd live
told_at (input.End cut) next (Asks q k) t sent live is by = absurd (untrue (own_answer q (input.End cut) is).1)
told_at (input.End cut) next u t sent live is by = absurd (untrue is)
told_at input.LinkFailed next (Over how) t sent live is by = absurd live
told_at input.LinkFailed next (Asks q k) t sent live is by = absurd (untrue (own_answer q input.LinkFailed is).1)
told_at input.LinkFailed next u t sent live is by = absurd (untrue is)
told_at given next u t sent live is by = absurd (none_some by)
  where
    none_some : None ≡ Some t → ⊥
    none_some e = absurd (cc)

-- a session has ended where reading has
over_then : (last : Input) (t : SessionTalk) → ending_by last ≡ Some t → IsLive (rest t) → ⊥
unfolding rest
over_then (input.Frame (TooLarge place)) t by live = subst (λ (v : SessionTalk). IsLive (rest v)) (sym (same_talk _ _ by)) live
over_then (input.Frame (OutOfOrder place want got)) t by live = subst (λ (v : SessionTalk). IsLive (rest v)) (sym (same_talk _ _ by)) live
over_then (input.Frame NoMemory) t by live = subst (λ (v : SessionTalk). IsLive (rest v)) (sym (same_talk _ _ by)) live
over_then (input.End cut) t by live = subst (λ (v : SessionTalk). IsLive (rest v)) (sym (same_talk _ _ by)) live
over_then input.LinkFailed t by live = subst (λ (v : SessionTalk). IsLive (rest v)) (sym (same_talk _ _ by)) live
over_then given t by live = absurd (none_some by)
  where
    none_some : None ≡ Some t → ⊥
    none_some e = absurd (cc)

-- ## What stands before it

abbrev Before : Standing → List Input → Input → Type 0
Before s before last = EachAnswers s before × IsLive (stands_after s before).at × IsTrue (is_answer (stands_after s before).at last)

splits : (before : List Input) (last : Input) (s : Standing) → EachAnswers s (before ++ last ∷ []) → Before s before last
splits [] last s each = (tt, each.0, each.1)
splits (given ∷ before) last s each =
    let r = splits before last (stands_on s given) each.3 in
    ((each.0, each.1, each.2, r.0), r.1, r.2)

-- where the session lives on, reading hasn't ended
still_open : (before : List Input) (s : Standing) → EachAnswers s before → IsLive (stands_after s before).at → EndsLast s before → AllAnswer s before
still_open before s each live (inl all) = all
still_open before s each live (inr e) = absurd (ended (splits e.0 e.1 s (subst (EachAnswers s) e.3 each)))
  where
    u : SessionTalk
    u = (stands_after s e.0).at

    ended : Before s e.0 e.1 → ⊥
    ended b = over_then e.1 e.2 e.5
        (subst IsLive (told_at e.1 (stands_after s e.0).next (stands_after s e.0).at e.2 [] b.1 b.2 e.5).1
        (subst (λ (i : Standing). IsLive i.at) (stands_more e.0 e.1 s) (subst (λ (is : List Input). IsLive (stands_after s is).at) e.3 live)))

is_told : (s : Standing) (before : List Input) (last : Input) (t : SessionTalk) → EachAnswers s (before ++ last ∷ []) → ending_by last ≡ Some t →
    let o = owed s.next s.at (packets_in before) (owns_in before) in
    (spoken s (before ++ last ∷ []) ≡ o.sent ++ sent_from (id_after (wanted_by o.next o.at)) (said t))
    × ((stands_after s (before ++ last ∷ [])).at ≡ rest t)
    × (o.unread ≡ []) × (o.unused ≡ [])
is_told s before last t each by =
    let b = splits before last s each in
    let all = still_open before s b.0 b.1 (ends_last before s.next s.at b.0) in
    let after = stands_after s before in
    let told = subst (Told after.next after.at last t (spoken s before)) (sym (runs_are_owed s before all)) (told_at last after.next after.at t (spoken s before) b.1 b.2 by) in
    (spoken_more before last s ∙ told.0, ap (λ (i : Standing). i.at) (stands_more before last s) ∙ told.1, told.2, told.3)

pub runs_end_as_owed : RunsEndAsOwed
runs_end_as_owed = record {
  ends_last = λ s inputs each. ends_last inputs s.next s.at each;
  is_told = is_told;
}
