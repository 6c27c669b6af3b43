-- What an event leaves of a replay, by what is done to its sessions and clients.
use Rattle.std.proofs.Common.{◌≡◌, refl, ap, sym, ◌∙◌, subst, ℕ, ◌==◌, Bool, true, false, cond, List, [], ◌∷◌, ◌++◌, drop, take, Option, Some, None, option_map, is_some, Result, Ok, Err, OnOk}
use Rattle.std.specs.BTreeMap.{BTreeMap, get}
use Rattle.std.specs.Ordering.{nat_cmp}
use Rattle.packet_stream.specs.Packing.{packet_text}
use Rattle.login_client.specs.declared.claims.Claim.{Claim}
use Rattle.session_world.proofs.Taking.{same_number}
use Rattle.client_wire.specs.Clients.{AreClients, client_of}
use Rattle.session_world.specs.Replays.{Came, Of, Printed, Replay, alters, begins, begun_with, brings, bytes_of, cuts_off, doing, downs, gets, idles, is_cut_off, is_in, of_session, printed_text, sends, session_of, ups, with_sent, writes}
use Rattle.client_wire.specs.UnderWay.{Client, new_client, sent_to, with_client}
use Rattle.packet_stream.specs.Queue.{has_bytes}
use Rattle.session_world.specs.Sessions.{Follows, put_by, world_of}
use Rattle.session_world.specs.Staged.{Leaves, Stands}
use Rattle.session_world.specs.Worlds.{AreAt, Doing, Happened, ToOpen, ToSend, World, does, is_over_at, is_there_at}
use Rattle.client_wire.specs.declared.held_client.HeldClient.{HeldClient}
use Rattle.session_world.specs.declared.output.Output.{Output}
use Rattle.session_world.specs.declared.stage.Stage.{Stage}
use Rattle.world_table.specs.Table.{Common}
use Rattle.world_table.specs.Printing.{Idle, Line, line_text, lines_text}

-- ## Lines

lines_printed : (session : ℕ) (lines : List Line) → lines_text session lines ≡ printed_text (of_session session lines)
lines_printed session [] = refl
lines_printed session (line ∷ lines) = ap (λ (text : List ℕ). line_text session line ++ text) (lines_printed session lines)

-- ## Calls that succeed

pub ok_both : {X E : Type 0} (A B : Type 0) (r : Result X E) → OnOk r A → OnOk r B → OnOk r (A × B)
ok_both A B (Ok x) a b = (a, b)
ok_both A B (Err e) a b = tt

-- ## Clients by the numbers of their sessions

module _ (kept : BTreeMap ℕ HeldClient) (all : ℕ → Option Client) (number : ℕ) where
  abbrev At : ℕ → Option Client → Type 0
  At q client = option_map client_of (get nat_cmp kept q) ≡ client

  sent_at : (bytes : List ℕ) (c d : Client) → all number ≡ Some c → d ≡ sent_to bytes c → (b : Bool) (q : ℕ) → (q == number) ≡ b →
      At q (cond b (Some d) (all q)) → At q (cond b (option_map (sent_to bytes) (all q)) (all q))
  sent_at bytes c d is so true q here at =
      at ∙ (ap Some so ∙ sym (ap (option_map (sent_to bytes)) (ap all (same_number q number here) ∙ is)))
  sent_at bytes c d is so false q here at = at

  -- bytes are under way to a client that was taken out
  pub sent_kept : (bytes : List ℕ) (c d : Client) → all number ≡ Some c → d ≡ sent_to bytes c → AreClients kept (with_client all number d) →
      AreClients kept (with_sent all number bytes)
  sent_kept bytes c d is so at q = sent_at bytes c d is so (q == number) q refl (at q)

  back_at : (c : Client) → all number ≡ Some c → (b : Bool) (q : ℕ) → (q == number) ≡ b → At q (cond b (Some c) (all q)) → At q (all q)
  back_at c is true q here at = at ∙ sym (ap all (same_number q number here) ∙ is)
  back_at c is false q here at = at

  -- a client is put back as it was
  pub put_back : (c : Client) → all number ≡ Some c → AreClients kept (with_client all number c) → AreClients kept all
  put_back c is at q = back_at c is (q == number) q refl (at q)

-- ## What is left

-- something was done to the world of sessions
pub leaves_so : (r : Replay) (what : Doing) (h : Happened) (stage : Stage) (put : Output) (before after : List ℕ) →
    h ≡ does r.world what → Follows h stage.state.table stage.state.sessions → AreClients stage.clients (with_sent r.clients (session_of what) put.sent) →
    after ≡ before ++ put.lines → put ≡ put_by h (record { lines = []; sent = [] }) → Leaves (doing r what) stage before after
leaves_so r what h stage put before after same follows clients printed put_is = record {
  stands = record {
    common = follows.common_is ∙ ap (λ (x : Happened). x.world.common) same;
    places = subst (λ (x : Happened). AreAt stage.state.sessions x.world.places) same follows.are_at;
    clients = subst (λ (bytes : List ℕ). AreClients stage.clients (with_sent r.clients (session_of what) bytes)) (ap (λ (o : Output). o.sent) put_is ∙ ap bytes_of same) clients;
  };
  printed = printed ∙ ap (λ (text : List ℕ). before ++ text)
      (ap (λ (o : Output). o.lines) put_is ∙ (lines_printed h.session h.lines ∙ ap (λ (x : Happened). printed_text (of_session x.session x.lines)) same));
}

-- what is done to a world that is kept is done to the world that it is
pub same_doing : (common : Common) (w : World) (what : Doing) → common ≡ w.common → does (world_of common w.places) what ≡ does w what
same_doing common w what is = ap (λ (c : Common). does (world_of c w.places) what) is

-- nothing could be done
pub idle_leaves : (r : Replay) (number : ℕ) (stage : Stage) (before after : List ℕ) → Stands stage r → after ≡ before ++ printed_text (Of number Idle ∷ []) →
    Leaves (idles r number) stage before after
idle_leaves r number stage before after stands printed = record { stands = stands; printed = printed }

-- a client has changed
pub alters_so : (r : Replay) (number : ℕ) (client d : Client) (printed told : List Printed) (stage : Stage) (before after : List ℕ) →
    stage.state.table ≡ r.world.common → AreAt stage.state.sessions r.world.places → AreClients stage.clients (with_client r.clients number d) →
    d ≡ client → told ≡ printed → after ≡ before ++ printed_text told → Leaves (alters r number client printed) stage before after
alters_so r number client d printed told stage before after common places clients is said text = record {
  stands = record {
    common = common;
    places = places;
    clients = subst (λ (c : Client). AreClients stage.clients (with_client r.clients number c)) is clients;
  };
  printed = text ∙ ap (λ (t : List Printed). before ++ printed_text t) said;
}

-- what came of an event is what another says
pub leaves_as : (came other : Came) (stage : Stage) (before after : List ℕ) → other ≡ came → Leaves came stage before after → Leaves other stage before after
leaves_as came other stage before after same = subst (λ (x : Came). Leaves x stage before after) (sym same)

-- ## Events

module _ (r : Replay) (number : ℕ) where
  -- a session begins whose peer is a client
  pub begun_leaves : (claim : Claim) (h : Happened) (stage : Stage) (d : Client) (put : Output) (before after : List ℕ) →
      h ≡ does r.world (ToOpen number) → Follows h stage.state.table stage.state.sessions → AreClients stage.clients (with_client r.clients number d) →
      d ≡ new_client claim put.sent → after ≡ before ++ put.lines → put ≡ put_by h (record { lines = []; sent = [] }) →
      Leaves (begun_with r number claim (does r.world (ToOpen number))) stage before after
  begun_leaves claim h stage d put before after same follows clients is printed put_is = record {
    stands = record {
      common = follows.common_is ∙ ap (λ (x : Happened). x.world.common) same;
      places = subst (λ (x : Happened). AreAt stage.state.sessions x.world.places) same follows.are_at;
      clients = subst (λ (c : Client). AreClients stage.clients (with_client r.clients number c))
          (is ∙ ap (new_client claim) (ap (λ (o : Output). o.sent) put_is ∙ ap bytes_of same)) clients;
    };
    printed = printed ∙ ap (λ (text : List ℕ). before ++ text)
        (ap (λ (o : Output). o.lines) put_is ∙ (lines_printed h.session h.lines ∙ ap (λ (x : Happened). printed_text (of_session x.session x.lines)) same));
  }

  pub begins_does : (claim : Claim) → is_some (r.world.places number) ≡ false → begins r number claim ≡ begun_with r number claim (does r.world (ToOpen number))
  begins_does claim e = ap (λ (b : Bool). cond b (idles r number) (begun_with r number claim (does r.world (ToOpen number)))) e

  pub sends_idles : (bytes : List ℕ) (o : Option Client) → is_some o ≡ true → sends r number bytes o ≡ idles r number
  sends_idles bytes (Some client) e = refl
  sends_idles bytes None e = absurd (cc)

  pub sends_does : (bytes : List ℕ) (o : Option Client) → is_some o ≡ false → sends r number bytes o ≡ doing r (ToSend number bytes)
  sends_does bytes (Some client) e = absurd (cc)
  sends_does bytes None e = refl

  module _ (o : Option Client) (client : Client) (is : o ≡ Some client) where
    pub ups_brings : (most : ℕ) → is_there_at (r.world.places number) ≡ true → has_bytes client.leaving ≡ true →
        ups r number most o ≡ brings r number client (take most client.leaving) (drop most client.leaving)
    ups_brings most there some = ap (ups r number most) is ∙ rw (there, some) refl

    pub ups_none_there : (most : ℕ) → is_there_at (r.world.places number) ≡ false → ups r number most o ≡ idles r number
    ups_none_there most there = ap (ups r number most) is ∙ rw (there) refl

    pub ups_nothing : (most : ℕ) → is_there_at (r.world.places number) ≡ true → has_bytes client.leaving ≡ false → ups r number most o ≡ idles r number
    ups_nothing most there none = ap (ups r number most) is ∙ rw (there, none) refl

    pub downs_gets : (most : ℕ) → has_bytes client.coming ≡ true → downs r number most o ≡ gets r number client (take most client.coming) (drop most client.coming)
    downs_gets most some = ap (downs r number most) is ∙ rw (some) refl

    pub downs_cuts : (most : ℕ) → has_bytes client.coming ≡ false → is_cut_off (is_over_at (r.world.places number)) client.result ≡ true →
        downs r number most o ≡ cuts_off r number client
    downs_cuts most none cut = ap (downs r number most) is ∙ rw (none, cut) refl

    pub downs_nothing : (most : ℕ) → has_bytes client.coming ≡ false → is_cut_off (is_over_at (r.world.places number)) client.result ≡ false →
        downs r number most o ≡ idles r number
    downs_nothing most none cut = ap (downs r number most) is ∙ rw (none, cut) refl

    pub writes_so : (payload : List ℕ) → is_there_at (r.world.places number) ≡ true → is_in client.result ≡ true →
        writes r number payload o ≡ alters r number (record client { leaving = client.leaving ++ packet_text 0 payload }) []
    writes_so payload there in_ = ap (writes r number payload) is ∙ rw (there, in_) refl

    pub writes_none_there : (payload : List ℕ) → is_there_at (r.world.places number) ≡ false → writes r number payload o ≡ idles r number
    writes_none_there payload there = ap (writes r number payload) is ∙ rw (there) refl

    pub writes_nothing : (payload : List ℕ) → is_there_at (r.world.places number) ≡ true → is_in client.result ≡ false → writes r number payload o ≡ idles r number
    writes_nothing payload there out = ap (writes r number payload) is ∙ rw (there, out) refl
