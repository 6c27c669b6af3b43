-- The laws of how a client ends, whole.
use Rattle.std.proofs.Common.{◌≡◌, refl, sym, ap, ◌∙◌, subst, inl, inr, ℕ, Bool, true, false, List, [], ◌++◌, Contains, Option, Some, append_assoc, append-nil}
use Rattle.lg_base.specs.declared.errors.Code.{Code}
use Rattle.lg_base.specs.Errors.{number_of}
use Rattle.account_history.specs.declared.entries.Reply.{Reply}
use Rattle.session_talk.specs.Logins.{session}
use Rattle.session_talk.specs.Texts.{error_payload, ok_payload}
use Rattle.login_client.specs.Conversation.{ClientTalk, conversation}
use Rattle.login_client.specs.Talk.{Over}
use Rattle.login_client.specs.declared.claims.Claim.{Claim}
use Rattle.login_client.specs.declared.ends.LoginEnd.{LoginEnd}
use Rattle.login_client.specs.declared.ends.LoginEnd.TheVariants as end
use Rattle.login_client.proofs.Meaning.{client-talk-one}
use Rattle.login_client.specs.declared.hearing.Heard.TheVariants.{Accepts, Refuses}
use Rattle.both_ends.specs.Laws.{EndedAtOnce, EndedByReply, OpenedByReply, RefusedByError, RefusedByReply}
use Rattle.both_ends.specs.Meeting.{EndsBy, EndsOver, IsBeginning, Opens, Tells, end_told, first_reply, payloads_of, sent_by}
use Rattle.both_ends.proofs.Agreeing.{Ends, goes-along, session-along}
use Rattle.both_ends.proofs.Endings.{ErrorAfter, IsNoOk, IsTrueError, OkAfter, error-no-ok, error-owed, error-true, ok-owed, opened-by, refused-by}
use Rattle.both_ends.proofs.OverBytes.{entered, fault_of, packets_of, told_of, transcript-each, transcript-sent}
use Rattle.both_ends.proofs.Finishing.{HasLast, ends-sooner, has-last}
use Rattle.both_ends.proofs.Heard.{error-heard, ok-heard}
use Rattle.both_ends.proofs.Saying.{IsEither}

pub opened-by-reply : OpenedByReply
opened-by-reply = record {
  over_packets = λ id packets owns claim got written begins talk. opened-by (first_reply owns) (sent_by id packets owns) (ok-owed id packets owns) claim got written begins talk;
  over_bytes = λ id peer bytes entries sent how claim got written t begins talk.
      let packets = packets_of id bytes t.owns in
      let each = transcript-each (IsEither IsNoOk OkAfter (first_reply t.owns)) id peer bytes entries sent how t (λ error. inl (error-no-ok error)) (ok-owed id packets t.owns) in
      subst (λ (o : Option Reply). Opens o) (sym (entered (session id) 0 packets t.owns entries t.entered).0)
      (opened-by (first_reply t.owns) (payloads_of sent) each claim got written begins talk);
}

pub refused-by-error : RefusedByError
refused-by-error = record {
  over_packets = λ id packets owns claim got written number begins talk.
      refused-by (first_reply owns) (sent_by id packets owns) (error-owed id packets owns) claim got written number begins talk;
  over_bytes = λ id peer bytes entries sent how claim got written number t begins talk.
      let packets = packets_of id bytes t.owns in
      let each = transcript-each (IsEither IsTrueError ErrorAfter (first_reply t.owns)) id peer bytes entries sent how t (λ error. inl (error-true error)) (error-owed id packets t.owns) in
      refused-by (first_reply t.owns) (payloads_of sent) each claim got written number begins talk;
}

-- ## By the reply

some-is : (a b : LoginEnd) → Some a ≡ Some b → a ≡ b
some-is a b e = cc

not-both : (b : Bool) → b ≡ true → b ≡ false → ⊥
not-both b e f = cc

-- of one talk that ends so, each does
ends-over : (claim : Claim) (reply : Reply) (got : List (List ℕ)) → Ends claim (conversation claim) reply got → EndsOver claim reply got
ends-over claim reply got (written, how, leads, by) = record {
  there_is = (written, how, talk);
  each = λ others result other. (how, sym (client-talk-one claim got written others (Some how) result talk other).1, by);
  local = λ local others result other.
      sym (client-talk-one claim got written others (Some how) result talk other).1 ∙ ap (λ (h : LoginEnd). Some h) (told local by);
} where
  talk : ClientTalk claim got written (Some how)
  talk = record { now = Over how; leads = leads; result_is = refl }

  told : claim.local ≡ true → EndsBy claim reply how → how ≡ end_told reply
  told local (inl is) = is
  told local (inr gave) = absurd (not-both claim.local local gave.0)

pub ended-by-reply : EndedByReply
ended-by-reply = record {
  over_packets = λ id packets owns reply claim more small nonces used found.
      ends-over claim reply (sent_by id packets owns ++ more)
      (goes-along claim reply more (session id) (conversation claim) 0 packets owns (session-along claim id small) nonces used found);
  over_bytes = λ id peer bytes entries sent how reply claim more t small nonces found.
      let packets = packets_of id bytes t.owns in
      let told = told_of (fault_of id bytes t.owns) in
      let enters = entered (session id) 0 packets t.owns entries t.entered in
      let all : payloads_of sent ++ more ≡ sent_by id packets t.owns ++ (told ++ more) =
      ap (λ (l : List (List ℕ)). l ++ more) (transcript-sent id peer bytes entries sent how t) ∙ append_assoc (sent_by id packets t.owns) told more in
      subst (λ (l : List (List ℕ)). EndsOver claim reply l) (sym all)
      (ends-over claim reply (sent_by id packets t.owns ++ (told ++ more))
      (goes-along claim reply (told ++ more) (session id) (conversation claim) 0 packets t.owns (session-along claim id small) nonces enters.1 (sym enters.0 ∙ found)));
}

-- ## At once

is-told : (got : List (List ℕ)) → Tells got → HasLast got
is-told got (inl ok) = has-last got ok_payload Accepts ok ok-heard (tt {0})
is-told got (inr (error, among)) = has-last got (error_payload error) (Refuses (number_of error)) among (error-heard error) (tt {0})

-- with nothing more
no-more : (claim : Claim) (reply : Reply) (all : List (List ℕ)) → Ends claim (conversation claim) reply (all ++ []) → Ends claim (conversation claim) reply all
no-more claim reply all ends = subst (λ (l : List (List ℕ)). Ends claim (conversation claim) reply l) (append-nil all) ends

sooner : (claim : Claim) (reply : Reply) (all got : List (List ℕ)) → Ends claim (conversation claim) reply all → IsBeginning got all → Tells got → EndsOver claim reply got
sooner claim reply all got ends (rest, is) tells =
    ends-over claim reply got
    (ends-sooner claim reply got rest (is-told got tells) (subst (λ (l : List (List ℕ)). Ends claim (conversation claim) reply l) is ends))

pub ended-at-once : EndedAtOnce
ended-at-once = record {
  over_packets = λ id packets owns reply claim got small nonces used found begins tells.
      sooner claim reply (sent_by id packets owns) got
      (no-more claim reply (sent_by id packets owns)
      (goes-along claim reply [] (session id) (conversation claim) 0 packets owns (session-along claim id small) nonces used found))
      begins tells;
  over_bytes = λ id peer bytes entries sent how reply claim got t small nonces found begins tells.
      let packets = packets_of id bytes t.owns in
      let told = told_of (fault_of id bytes t.owns) in
      let enters = entered (session id) 0 packets t.owns entries t.entered in
      sooner claim reply (payloads_of sent) got
      (subst (λ (l : List (List ℕ)). Ends claim (conversation claim) reply l) (sym (transcript-sent id peer bytes entries sent how t))
      (goes-along claim reply told (session id) (conversation claim) 0 packets t.owns (session-along claim id small) nonces enters.1 (sym enters.0 ∙ found)))
      begins tells;
}

-- ## Refused by the reply

refused-told : (claim : Claim) (reply : Reply) (got written : List (List ℕ)) (number : ℕ) → EndsOver claim reply got → ClientTalk claim got written (Some (end.Refused number)) →
    end_told reply ≡ end.Refused number
refused-told claim reply got written number ends talk = by (ends.each written (Some (end.Refused number)) talk) where
  by : (how : LoginEnd) × (Some (end.Refused number) ≡ Some how) × EndsBy claim reply how → end_told reply ≡ end.Refused number
  by (how, is, inl told) = sym (some-is (end.Refused number) how is ∙ told)
  by (how, is, inr gave) = absurd (let other = some-is (end.Refused number) how is ∙ gave.1 in cc)

-- a refused client got an ERR
got-error : (got : List (List ℕ)) (number : ℕ) → (error : Code) × Contains got (error_payload error) × (number_of error ≡ number) → Tells got
got-error got number (error, among, is) = inr (error, among)

pub refused-by-reply : RefusedByReply
refused-by-reply = record {
  over_packets = λ id packets owns reply claim got written number small nonces used found begins talk.
      refused-told claim reply got written number
      (ended-at-once.over_packets id packets owns reply claim got small nonces used found begins
      (got-error got number (refused-by-error.over_packets id packets owns claim got written number begins talk)))
      talk;
  over_bytes = λ id peer bytes entries sent how reply claim got written number t small nonces found begins talk.
      refused-told claim reply got written number
      (ended-at-once.over_bytes id peer bytes entries sent how reply claim got t small nonces found begins
      (got-error got number (refused-by-error.over_bytes id peer bytes entries sent how claim got written number t begins talk)))
      talk;
}
