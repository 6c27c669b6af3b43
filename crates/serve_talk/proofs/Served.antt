-- Paths serve a session.
use Rattle.std.proofs.Common.{◌≡◌, refl, sym, ap, ◌∙◌, subst, IsTrue, ℕ, ◌+◌, ◌*◌, ◌≤◌, Bool, true, false, List, [], ◌∷◌, ◌++◌, length, take, Option, Some, None, append-nil, arith}
use Rattle.lg_outside.specs.Faults.{Rose}
use Rattle.account_history.specs.declared.entries.Entry.{Entry}
use Rattle.interaction.specs.Talk.{Says, Hears, Asks, Over}
use Rattle.link_packets.specs.Moving.{IsAtEnd, Moved}
use Rattle.packet_frame.specs.declared.packets.Packet.{Packet}
use Rattle.packet_stream.specs.Packing.{packets_text}
use Rattle.packet_stream.specs.Sent.{Sent}
use Rattle.packet_stream.specs.Streams.{Stream, all_of}
use Rattle.session_talk.specs.Given.{IsDone, Transcribes, asked_after, begins, end_in}
use Rattle.session_talk.specs.Runs.{IsLive, Standing, packets_in, spoken, stands_after}
use Rattle.session_talk.specs.Talk.{SessionTalk}
use Rattle.session_talk.specs.Transcript.{Closed, Open, Peer}
use Rattle.session_talk.specs.Turns.{asked, heard, is_answer, question, rest, wanted_by}
use Rattle.session_talk.specs.declared.actions.Ask.{Ask}
use Rattle.session_talk.specs.declared.actions.Ask.TheVariants as ask
use Rattle.session_talk.specs.declared.ends.SessionEnd.{SessionEnd}
use Rattle.session_talk.specs.declared.ends.SessionEnd.TheVariants as end
use Rattle.session_talk.specs.declared.inputs.Input.{Input}
use Rattle.session_talk.specs.declared.inputs.Input.TheVariants as input
use Rattle.session_talk.proofs.Asking.{own_answer, untrue}
use Rattle.session_talk.proofs.Transcripts.{runs_are_transcripts}
use Rattle.serve_talk.specs.Fitting.{IsDecided, is_call}
use Rattle.serve_talk.specs.Paths.{Anything, Behind, Halts, Is, IsIdle, Leads, Loose, Path, PathsAreServed, Point, Rested, TheEnd, Turned, Wrote, ahead, book_end, closed, from, moment, nothing_loose, over, standing, stopped, unsaid}
use Rattle.serve_talk.specs.Serving as serving
use Rattle.serve_talk.specs.Serving.{CameToCall, Finishes, IsCause, Serves, Spoke}
use Rattle.serve_talk.specs.Sides.{GaveAll, Moment, nonces_in}
use Rattle.serve_talk.specs.declared.endings.Ending.{Ending}
use Rattle.serve_talk.specs.declared.endings.Ending.TheVariants.{Told, BookEnd}
use Rattle.serve_talk.proofs.Decided.{IsDecidedAsk, asked_decided}
use Rattle.serve_talk.proofs.Grown.{nonces_of_owns}
use Rattle.serve_talk.proofs.Walked.{leads_more, leads_none, path_last, path_rest, wrote_all}

-- a call isn't a packet that is waited for, nor an end
call_done : (peer : Peer) (a : Ask) (left : Stream) → is_call a ≡ true → IsDone peer a left
call_done peer (ask.Read want) left is = absurd (untrue is)
call_done peer _ left is = tt

call_none : (a : Ask) → is_call a ≡ true → end_in a ≡ None
call_none (ask.Ended how) is = absurd (untrue is)
call_none _ is = refl

-- the bytes that a path reads have a transcript, where nothing more comes of what stands behind them
module _ (id : ℕ) (x : Moment) (behind : Behind) (z : Point) (loose : Loose) (path : Path behind (from id x) z loose) where
  abbrev at_end : Ask
  at_end = asked z.next z.at

  abbrev told : List Sent
  told = spoken (begins id) path.inputs

  asked_is : at_end ≡ asked_after id path.inputs
  asked_is = ap (λ (s : Standing). asked s.next s.at) path.stands

  spoke : (peer : Peer) (rest : List ℕ) → Is behind peer rest → IsDone peer at_end (ahead z rest) →
      Spoke id peer (path.got ++ rest) path.entries told (end_in at_end) x (moment z)
  spoke peer rest is done =
      let t : Transcribes id peer (path.got ++ rest) path.entries path.inputs =
      runs_are_transcripts.whole id peer (path.got ++ rest) path.entries path.inputs (ahead z rest) path.answers (path.given peer rest is)
      (subst (λ (a : Ask). IsDone peer a (ahead z rest)) asked_is done) in
      subst (λ (a : Ask). Spoke id peer (path.got ++ rest) path.entries told (end_in a) x (moment z)) (sym asked_is) (record {
        script = t.transcript;
        drew = subst (λ (l : List (List ℕ)). GaveAll x.side.draws z.side.draws l)
            (sym (ap (λ (l : List Input). nonces_in l) t.answers ∙ nonces_of_owns path.inputs)) path.grew.drew;
        spent = omega (arith, path.spent, ap (λ (l : List Packet). length l) t.packets);
      })

  came_to_call : (rest : List ℕ) → Is behind Open rest → is_call at_end ≡ true → CameToCall id (path.got ++ rest) path.entries told x (moment z)
  came_to_call rest is call =
      let called : is_call (asked_after id path.inputs) ≡ true = ap (λ (a : Ask). is_call a) (sym asked_is) ∙ call in
      let t : Transcribes id Open (path.got ++ rest) path.entries path.inputs =
      runs_are_transcripts.whole id Open (path.got ++ rest) path.entries path.inputs (ahead z rest) path.answers (path.given Open rest is)
      (call_done Open (asked_after id path.inputs) (ahead z rest) called) in
      record {
        spoke = record {
          script = record {
            owns = t.transcript.owns;
            entered = t.transcript.entered;
            sends = t.transcript.sends;
            ends = sym (call_none (asked_after id path.inputs) called) ∙ t.transcript.ends;
          };
          drew = subst (λ (l : List (List ℕ)). GaveAll x.side.draws z.side.draws l)
              (sym (ap (λ (l : List Input). nonces_in l) t.answers ∙ nonces_of_owns path.inputs)) path.grew.drew;
          spent = omega (arith, path.spent, ap (λ (l : List Packet). length l) t.packets);
        };
        inputs = path.inputs;
        answers = t.answers;
        packets = t.packets;
        asks = called;
      }

  serves : (Rises : Type 0) (how : Ending) → Finishes id path.entries x (moment z) Rises how → Serves id x (moment z) Rises how
  serves Rises how finishes = record { entries = path.entries; finishes = finishes; nonces = nonces_in path.inputs; grew = path.grew }

take-front : (front more : List ℕ) → take (length front) (front ++ more) ≡ front
take-front [] more = refl
take-front (n ∷ front) more = ap (λ (l : List ℕ). n ∷ l) (take-front front more)

-- a part of what was due was written
broken_path : (id : ℕ) (x : Moment) (z : Point) (loose : Loose) (Rises : Type 0) (how : SessionEnd) → Path Anything (from id x) z loose → IsCause Rises how → IsIdle z
    → Serves id x (moment z) Rises (Told how)
broken_path id x z loose Rises how path cause idle =
    serves id x Anything z loose path Rises (Told how)
    (serving.broken path.got loose.over (told id x Anything z loose path) (length path.wrote.text) (end_in (asked z.next z.at)) how
    (subst (λ (text : List ℕ). Moved x.link z.link (path.got ++ loose.over) text)
    (sym (take-front path.wrote.text loose.unwritten) ∙ ap (λ (text : List ℕ). take (length path.wrote.text) text) (sym path.wrote.due_is)) path.wrote.moved)
    cause
    (subst (λ (got : List ℕ). Spoke id Open got path.entries (told id x Anything z loose path) (end_in (asked z.next z.at)) x (moment z)) (append-nil path.got)
    (spoke id x Anything z loose path Open [] tt idle)))

-- the talk is over
done_over : (peer : Peer) (a : Ask) (how : SessionEnd) (left : Stream) → a ≡ ask.Ended how → IsDone peer a left
done_over peer a how left is = subst (λ (b : Ask). IsDone peer b left) (sym is) tt

over_path : (id : ℕ) (x : Moment) (p : Point) (Rises : Type 0) (how : SessionEnd) → Path Anything (from id x) p nothing_loose → asked p.next p.at ≡ ask.Ended how
    → Serves id x (moment p) Rises (Told how)
over_path id x p Rises how path is =
    let sent = told id x Anything p nothing_loose path in
    let known : IsDecidedAsk (asked_after id path.inputs) =
    asked_decided id path.inputs (all_of (path.got ++ [])) path.entries (ahead p []) path.answers (path.given Open [] tt) in
    let end_is : IsDecided how = subst (λ (a : Ask). IsDecidedAsk a) (sym (asked_is id x Anything p nothing_loose path) ∙ is) known in
    serves id x Anything p nothing_loose path Rises (Told how)
    (serving.decided path.got sent how end_is (wrote_all (from id x) p path.got (packets_text sent) path.wrote)
    (λ behind. subst (λ (a : Ask). Spoke id Open (path.got ++ behind) path.entries sent (end_in a) x (moment p)) is
    (spoke id x Anything p nothing_loose path Open behind tt (done_over Open (asked p.next p.at) how (ahead p behind) is))))

-- a session that is given the end of the connection is over
end_heard : (t : SessionTalk) (cut : Bool) → IsLive t → IsTrue (is_answer t (input.End cut)) → rest (heard t (input.End cut)) ≡ Over (end.PeerClosed cut)
unfolding heard is_answer rest
end_heard (Says payload t) cut live is = absurd (untrue is)
end_heard (Hears anew k) cut live is = refl
end_heard (Asks q k) cut live is = absurd (cc_of (own_answer q (input.End cut) is).1)
  where
    cc_of : false ≡ true → ⊥
    cc_of e = absurd (cc)
end_heard (Over how) cut live is = absurd live

asked_over : (next : ℕ) (t : SessionTalk) (how : SessionEnd) → t ≡ Over how → asked next t ≡ ask.Ended how
unfolding question wanted_by
asked_over next t how is = ap (λ (u : SessionTalk). asked next u) is

closed_path : (id : ℕ) (x : Moment) (z : Point) (Rises : Type 0) (cut : Bool) → Path TheEnd (from id x) z nothing_loose →
    asked z.next z.at ≡ ask.Ended (end.PeerClosed cut) → IsAtEnd z.link → Serves id x (moment z) Rises (Told (end.PeerClosed cut))
closed_path id x z Rises cut path is at_the_end =
    let sent = told id x TheEnd z nothing_loose path in
    serves id x TheEnd z nothing_loose path Rises (Told (end.PeerClosed cut))
    (serving.closed path.got sent cut (wrote_all (from id x) z path.got (packets_text sent) path.wrote) at_the_end
    (subst (λ (got : List ℕ). Spoke id Closed got path.entries sent (Some (end.PeerClosed cut)) x (moment z)) (append-nil path.got)
    (subst (λ (a : Ask). Spoke id Closed (path.got ++ []) path.entries sent (end_in a) x (moment z)) is
    (spoke id x TheEnd z nothing_loose path Closed [] (refl, refl) (done_over Closed (asked z.next z.at) (end.PeerClosed cut) (ahead z []) is)))))

halted : (id : ℕ) (x y : Moment) (p : Point) (Rises : Type 0) (how : Ending) → Leads (from id x) p → Halts p y Rises how → Serves id x y Rises how
halted id x y p Rises _ leads (over given z how turned same is) =
    subst (λ (m : Moment). Serves id x m Rises (Told how)) same
    (over_path id x z Rises how (leads Anything z nothing_loose (path_last Anything p z given nothing_loose turned)) is)
halted id x y p Rises _ leads (unsaid given z loose how turned same cause idle) =
    subst (λ (m : Moment). Serves id x m Rises (Told how)) same
    (broken_path id x z loose Rises how (leads Anything z loose (path_last Anything p z given loose turned)) cause idle)
halted id x y p Rises _ leads (closed cut z turned same at_the_end) =
    let at_is = ap (λ (s : Standing). s.at) turned.stands ∙ end_heard p.at cut turned.live turned.answers in
    subst (λ (m : Moment). Serves id x m Rises (Told (end.PeerClosed cut))) same
    (closed_path id x z Rises cut (leads TheEnd z nothing_loose (path_last TheEnd p z (input.End cut) nothing_loose turned))
    (asked_over z.next z.at (end.PeerClosed cut) at_is)
    (subst (λ (m : Moment). IsAtEnd m.link) (sym same) at_the_end))
halted id x y p Rises _ leads (stopped z loose how rested same cause idle) =
    subst (λ (m : Moment). Serves id x m Rises (Told how)) same
    (broken_path id x z loose Rises how (leads Anything z loose (path_rest p z loose rested)) cause idle)
halted id x y p Rises _ leads (book_end z rested same ended call) =
    let path = leads Anything z nothing_loose (path_rest p z nothing_loose rested) in
    let sent = told id x Anything z nothing_loose path in
    let asked_is : is_call (asked z.next z.at) ≡ true = ap (λ (s : Standing). is_call (asked s.next s.at)) rested.same ∙ call in
    subst (λ (m : Moment). Serves id x m Rises BookEnd) same
    (serves id x Anything z nothing_loose path Rises BookEnd
    (serving.book_end path.got sent (wrote_all (from id x) z path.got (packets_text sent) path.wrote)
    (subst (λ (m : Moment). m.side.ended ≡ true) (sym same) ended)
    (λ behind. came_to_call id x Anything z nothing_loose path behind tt asked_is)))

pub paths_are_served : PathsAreServed
paths_are_served = record {
  begins = leads_none;
  goes_on = leads_more;
  halts = λ id x y p before after how leads halts. halted id x y p (Rose before after) how leads halts;
}
