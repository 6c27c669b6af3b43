-- A client that is a session's peer: what it was given, and what it wrote, beside what the session sent and got.
use Rattle.std.proofs.Common.{◌≡◌, refl, ap, sym, ◌∙◌, subst, ℕ, Bool, true, List, [], ◌∷◌, ◌++◌, append-nil, append_assoc, Option, Some, None}
use Rattle.packet_frame.specs.Front.{Front}
use Rattle.packet_frame.specs.declared.packets.Want.TheVariants.{Exactly}
use Rattle.packet_frame.proofs.Fronts.{front-nothing}
use Rattle.packet_stream.specs.Sent.{Sent}
use Rattle.packet_stream.specs.Streams.{Stream}
use Rattle.packet_stream.specs.declared.limits.TheConstants.{MAX_PAYLOAD}
use Rattle.login_client.specs.Conversation.{conversation, greeted}
use Rattle.login_client.specs.Talk.{Talk, result_of}
use Rattle.login_client.specs.declared.claims.Claim.{Claim}
use Rattle.login_client.specs.declared.ends.LoginEnd.{LoginEnd}
use Rattle.login_client.specs.declared.ends.LoginEnd.TheVariants as end
use Rattle.client_wire.specs.Ends.{Standing, got_by, stands_at, with_bytes}
use Rattle.client_wire.specs.Getting.{Got, after_written, getting, rests}
use Rattle.packet_stream.specs.Packing.{packets_text}
use Rattle.client_wire.proofs.Fronted.{at_front}
use Rattle.client_wire.proofs.GoingOn.{getting_goes_on}
use Rattle.packet_stream.proofs.Packed.{packets_text-append}
use Rattle.session_world.specs.Replays.{is_in}
use Rattle.client_wire.specs.UnderWay.{Client, client_after, getting_by, new_client, sent_to, with_got}

abbrev pub stream_of : List ℕ → Stream
stream_of bytes = record { place = 0; bytes = bytes }

-- what comes of the bytes that a client with a claim got
abbrev pub got_of : Claim → List ℕ → Got
got_of claim bytes = getting 0 (conversation claim) (stream_of bytes)

-- The result of a client, by where its talk stands: it has none, and was given no bytes beyond those that it got; or it
-- ended as its talk did; or it was told that its session has ended, when all had come down.
pub data IsResult (over : Bool) (at : Talk) (dropped commands coming : List ℕ) (result : Option LoginEnd) : Type 0 where
  waits : result ≡ None → result_of at ≡ None → dropped ≡ [] → commands ≡ [] → IsResult over at dropped commands coming result
  ends : (how : LoginEnd) → result ≡ Some how → result_of at ≡ Some how → IsResult over at dropped commands coming result
  cut : result ≡ Some end.PeerClosed → result_of at ≡ None → dropped ≡ [] → commands ≡ [] → coming ≡ [] → over ≡ true
      → IsResult over at dropped commands coming result

-- Of what the session sent, the client got some bytes, dropped some, and others are still coming. Of what it wrote,
-- its talk's packets and then commands, some bytes came to the session, some are about to, and others are leaving.
pub record IsPeer (over : Bool) (client : Client) (sent : List Sent) (bytes pending : List ℕ) : Type 0 where
  pub claim : Claim
  pub local : claim.local ≡ true
  pub got : List ℕ
  pub dropped : List ℕ
  pub commands : List ℕ
  pub stands_is : client.stands ≡ stands_at (got_of claim got)
  pub came : packets_text sent ≡ got ++ (dropped ++ client.coming)
  pub wrote : bytes ++ (pending ++ client.leaving) ≡ (got_of claim got).sent ++ commands
  pub result_is : IsResult over (got_of claim got).at dropped commands client.coming client.result

-- ## Its session goes on

module _ (over later : Bool) (more : List ℕ) (stays : over ≡ true → (more ≡ []) × (later ≡ true)) where
  result_goes : (at : Talk) (dropped commands coming : List ℕ) (result : Option LoginEnd) → IsResult over at dropped commands coming result →
      IsResult later at dropped commands (coming ++ more) result
  result_goes at dropped commands coming result (waits none waiting kept plain) = waits none waiting kept plain
  result_goes at dropped commands coming result (ends how is by) = ends how is by
  result_goes at dropped commands coming result (cut is waiting kept plain all is-over) =
      let (no-more, still) = stays is-over in
      cut is waiting kept plain (ap (λ (bytes : List ℕ). bytes ++ more) all ∙ no-more) still

pub session_goes : (over later : Bool) (client : Client) (sent more : List Sent) (bytes pending : List ℕ) → (over ≡ true → (more ≡ []) × (later ≡ true)) →
    IsPeer over client sent bytes pending → IsPeer later (sent_to (packets_text more) client) (sent ++ more) (bytes ++ pending) []
session_goes over later client sent more bytes pending stays p = record {
  claim = p.claim;
  local = p.local;
  got = p.got;
  dropped = p.dropped;
  commands = p.commands;
  stands_is = p.stands_is;
  came = packets_text-append sent more
      ∙ (ap (λ (text : List ℕ). text ++ packets_text more) p.came
      ∙ (append_assoc p.got (p.dropped ++ client.coming) (packets_text more)
      ∙ ap (λ (text : List ℕ). p.got ++ text) (append_assoc p.dropped client.coming (packets_text more))));
  wrote = append_assoc bytes pending client.leaving ∙ p.wrote;
  result_is = result_goes over later (packets_text more) (λ is-over. (ap packets_text (stays is-over).0, (stays is-over).1))
      (got_of p.claim p.got).at p.dropped p.commands client.coming client.result p.result_is;
}

-- ## It gets bytes

module _ (over : Bool) (client : Client) (bytes rest : List ℕ) (sent : List Sent) (got_bytes : List ℕ) (split : client.coming ≡ bytes ++ rest) where
  abbrev gained : Got
  gained = getting_by client bytes

  -- what comes of all that it got is what came of it before, and what comes of these bytes
  goes_on : (claim : Claim) (got : List ℕ) → client.stands ≡ stands_at (got_of claim got) →
      got_of claim (got ++ bytes) ≡ after_written (got_of claim got).sent gained
  goes_on claim got stands =
      getting_goes_on 0 (conversation claim) (stream_of got) bytes
      ∙ ap (λ (s : Standing). after_written (got_of claim got).sent (got_by (with_bytes s bytes))) (sym stands)

  -- its talk may end by them
  gained_result : (at : Talk) → (found : Option LoginEnd) → result_of at ≡ found → IsResult over at [] [] rest (result_of at)
  gained_result at None e = waits e e refl refl
  gained_result at (Some how) e = ends how e e

  heard : (p : IsPeer over client sent got_bytes []) → p.dropped ≡ [] → p.commands ≡ [] → IsPeer over (with_got client rest gained) sent got_bytes []
  heard p kept plain =
      let on : got_of p.claim (p.got ++ bytes) ≡ after_written (got_of p.claim p.got).sent gained = goes_on p.claim p.got p.stands_is in
      record {
        claim = p.claim;
        local = p.local;
        got = p.got ++ bytes;
        dropped = [];
        commands = [];
        stands_is = ap (λ (g : Got). stands_at g) (sym on);
        came = p.came
            ∙ (ap (λ (text : List ℕ). p.got ++ (text ++ client.coming)) kept
            ∙ (ap (λ (text : List ℕ). p.got ++ text) split ∙ sym (append_assoc p.got bytes rest)));
        wrote = sym (append_assoc got_bytes client.leaving gained.sent)
            ∙ (ap (λ (text : List ℕ). text ++ gained.sent) (p.wrote ∙ (ap (λ (text : List ℕ). (got_of p.claim p.got).sent ++ text) plain ∙ append-nil (got_of p.claim p.got).sent))
            ∙ (sym (ap (λ (g : Got). g.sent) on) ∙ sym (append-nil (got_of p.claim (p.got ++ bytes)).sent)));
        result_is = subst (λ (g : Got). IsResult over g.at [] [] rest (result_of gained.at)) (sym on) (gained_result gained.at (result_of gained.at) refl);
      }

  -- or it is done, and drops them
  kept_result : (at : Talk) (dropped commands : List ℕ) (result : Option LoginEnd) → IsResult over at dropped commands client.coming result → (how : LoginEnd) → result ≡ Some how →
      IsResult over at (dropped ++ bytes) commands rest result
  kept_result at dropped commands result (waits none waiting kept plain) how e = absurd (cc)
  kept_result at dropped commands result (ends how' is by) how e = ends how' is by
  kept_result at dropped commands result (cut is waiting kept plain all is-over) how e =
      let (no-bytes, no-rest) = both_none bytes rest (sym split ∙ all) in
      cut is waiting (ap (λ (text : List ℕ). text ++ bytes) kept ∙ no-bytes) plain no-rest is-over
    where
      both_none : (xs ys : List ℕ) → xs ++ ys ≡ [] → (xs ≡ []) × (ys ≡ [])
      both_none [] ys none = (refl, none)
      both_none (x ∷ xs) ys none = absurd (cc)

  drops : (p : IsPeer over client sent got_bytes []) → (how : LoginEnd) → client.result ≡ Some how → IsPeer over (record client { coming = rest }) sent got_bytes []
  drops p how is = record {
    claim = p.claim;
    local = p.local;
    got = p.got;
    dropped = p.dropped ++ bytes;
    commands = p.commands;
    stands_is = p.stands_is;
    came = p.came
        ∙ (ap (λ (text : List ℕ). p.got ++ (p.dropped ++ text)) split ∙ ap (λ (text : List ℕ). p.got ++ text) (sym (append_assoc p.dropped bytes rest)));
    wrote = p.wrote;
    result_is = kept_result (got_of p.claim p.got).at p.dropped p.commands client.result p.result_is how is;
  }

  -- without a result it dropped nothing, and wrote no command
  still_waits : (at : Talk) (dropped commands coming : List ℕ) (result : Option LoginEnd) → IsResult over at dropped commands coming result → result ≡ None →
      (dropped ≡ []) × (commands ≡ [])
  still_waits at dropped commands coming result (waits none waiting kept plain) e = (kept, plain)
  still_waits at dropped commands coming result (ends how is by) e = absurd (cc)
  still_waits at dropped commands coming result (cut is waiting kept plain all is-over) e = (kept, plain)

  by_result : (result : Option LoginEnd) → client.result ≡ result → IsPeer over client sent got_bytes [] → IsPeer over (client_after result client bytes rest) sent got_bytes []
  by_result None e p =
      let (kept, plain) = still_waits (got_of p.claim p.got).at p.dropped p.commands client.coming client.result p.result_is e in
      heard p kept plain
  by_result (Some how) e p = drops p how e

  pub client_gets : IsPeer over client sent got_bytes [] → IsPeer over (client_after client.result client bytes rest) sent got_bytes []
  client_gets p = by_result client.result refl p

-- ## It is cut off, and it writes

module _ (over : Bool) (client : Client) (sent : List Sent) (bytes : List ℕ) (p : IsPeer over client sent bytes []) where
  abbrev stood : Got
  stood = got_of p.claim p.got

  cut_result : IsResult over stood.at p.dropped p.commands client.coming client.result → over ≡ true → client.result ≡ None → client.coming ≡ [] →
      IsResult over stood.at p.dropped p.commands client.coming (Some end.PeerClosed)
  cut_result (waits none waiting kept plain) is-over e all = cut refl waiting kept plain all is-over
  cut_result (ends how is by) is-over e all = absurd (cc)
  cut_result (cut is waiting kept plain all' is-over') is-over e all = absurd (cc)

  pub client_cut : over ≡ true → client.result ≡ None → client.coming ≡ [] → IsPeer over (record client { result = Some end.PeerClosed }) sent bytes []
  client_cut is-over none all = record {
    claim = p.claim;
    local = p.local;
    got = p.got;
    dropped = p.dropped;
    commands = p.commands;
    stands_is = p.stands_is;
    came = p.came;
    wrote = p.wrote;
    result_is = cut_result p.result_is is-over none all;
  }

  in_result : (result : Option LoginEnd) → is_in result ≡ true → result ≡ Some end.Opened
  in_result (Some end.Opened) e = refl
  in_result _ e = absurd (cc)

  with_command : (command : List ℕ) → IsResult over stood.at p.dropped p.commands client.coming client.result → client.result ≡ Some end.Opened →
      IsResult over stood.at p.dropped (p.commands ++ command) client.coming client.result
  with_command command (waits none waiting kept plain) is-in = absurd (cc)
  with_command command (ends how is by) is-in = ends how is by
  with_command command (cut is waiting kept plain all is-over) is-in = absurd (cc)

  pub client_writes : (text : List ℕ) → is_in client.result ≡ true → IsPeer over (record client { leaving = client.leaving ++ text }) sent bytes []
  client_writes text is-in = record {
    claim = p.claim;
    local = p.local;
    got = p.got;
    dropped = p.dropped;
    commands = p.commands ++ text;
    stands_is = p.stands_is;
    came = p.came;
    wrote = sym (append_assoc bytes client.leaving text)
        ∙ (ap (λ (all : List ℕ). all ++ text) p.wrote ∙ append_assoc stood.sent p.commands text);
    result_is = with_command text p.result_is (in_result client.result is-in);
  }

  -- some of its bytes are about to come to the session
  pub client_brings : (taken rest : List ℕ) → client.leaving ≡ taken ++ rest → IsPeer over (record client { leaving = rest }) sent bytes taken
  client_brings taken rest split = record {
    claim = p.claim;
    local = p.local;
    got = p.got;
    dropped = p.dropped;
    commands = p.commands;
    stands_is = p.stands_is;
    came = p.came;
    wrote = ap (λ (all : List ℕ). bytes ++ all) (sym split) ∙ p.wrote;
    result_is = p.result_is;
  }

-- ## It begins

got_nothing : (claim : Claim) → got_of claim [] ≡ rests 0 (conversation claim) (stream_of [])
unfolding getting
got_nothing claim = ap (λ (f : Front). at_front 0 (greeted claim) (stream_of []) f) (front-nothing MAX_PAYLOAD (Exactly 0) 0)

pub client_begins : (over : Bool) (claim : Claim) (sent : List Sent) → claim.local ≡ true → IsPeer over (new_client claim (packets_text sent)) sent [] []
client_begins over claim sent local = record {
  claim = claim;
  local = local;
  got = [];
  dropped = [];
  commands = [];
  stands_is = ap (λ (g : Got). stands_at g) (sym (got_nothing claim));
  came = refl;
  wrote = sym (ap (λ (g : Got). g.sent ++ []) (got_nothing claim));
  result_is = waits refl (ap (λ (g : Got). result_of g.at) (got_nothing claim)) refl refl;
}
