-- How a client ends, by what the session sent.
use Rattle.std.proofs.Common.{◌≡◌, refl, sym, ap, ◌∙◌, subst, ◌⊎◌, inl, inr, ⊎_elim, ℕ, List, [], ◌∷◌, ◌++◌, Contains, Option, Some, eqb-true}
use Rattle.std.proofs.lemmas.List.Elements.{Contains-append_left}
use Rattle.lg_base.specs.declared.errors.Code.{Code}
use Rattle.lg_base.specs.declared.errors.Code.TheVariants as code
use Rattle.lg_base.specs.Errors.{number_of}
use Rattle.packet_frame.specs.declared.packets.Packet.{Packet}
use Rattle.factor_chain.specs.declared.credentials.Method.{Method}
use Rattle.account_history.specs.declared.entries.Reply.{Reply}
use Rattle.wire_form.specs.Fields.{mark}
use Rattle.auth_packets.specs.Handshake.{greeting_text, opening_text}
use Rattle.auth_packets.specs.Replies.{err_packet, ok_packet}
use Rattle.auth_packets.specs.declared.replies.ErrPacket.{ErrPacket}
use Rattle.auth_packets.specs.declared.replies.OkPacket.{OkPacket}
use Rattle.session_talk.specs.Logins.{session}
use Rattle.session_talk.specs.Texts.{error_payload, fast_payload, full_payload, greeting_payload, method_name, ok_payload, switch_payload}
use Rattle.session_talk.specs.declared.inputs.Input.{Input}
use Rattle.login_client.specs.Conversation.{ClientTalk}
use Rattle.login_client.specs.Hearing.{IsHeard}
use Rattle.login_client.specs.declared.claims.Claim.{Claim}
use Rattle.login_client.specs.declared.ends.LoginEnd.TheVariants as end
use Rattle.login_client.specs.declared.hearing.Heard.{Heard}
use Rattle.login_client.specs.declared.hearing.Heard.TheVariants.{Switches, Fast, Full, Accepts, Refuses}
use Rattle.login_client.proofs.Meaning.{one-meaning}
use Rattle.both_ends.specs.Meeting.{IsBeginning, Opens, first_reply, sent_by}
use Rattle.both_ends.proofs.Heard.{error-heard, fast-heard, full-heard, ok-heard, switch-heard}
use Rattle.both_ends.proofs.Saying.{Each, IsEither, Kinds, both-owed, each-of, session-says}
use Rattle.both_ends.proofs.Told.{client-told}

-- ## First bytes

abbrev First : ℕ → List ℕ → Type 0
First b payload = (rest : List ℕ) × (payload ≡ b ∷ rest)

mark-first : (b : ℕ) (front : List ℕ) → (mark b).Spells tt front → front ≡ b ∷ []
mark-first b front (x, (is, test), made) = is ∙ ap (λ (y : ℕ). y ∷ []) (eqb-true x b test)

ok-first : (o : OkPacket) (payload : List ℕ) → ok_packet.Spells o payload → First 0x00 payload
unfolding ok_packet
ok-first o payload (parts, (front, back, (front', back', marked, more', is'), more, is), made) =
    (back' ++ back, is ∙ ap (λ (l : List ℕ). l ++ back) (is' ∙ ap (λ (l : List ℕ). l ++ back') (mark-first 0x00 front' marked)))

err-first : (e : ErrPacket) (payload : List ℕ) → err_packet.Spells e payload → First 0xff payload
unfolding err_packet
err-first e payload (parts, (front, back, (front', back', marked, more', is'), more, is), made) =
    (back' ++ back, is ∙ ap (λ (l : List ℕ). l ++ back) (is' ∙ ap (λ (l : List ℕ). l ++ back') (mark-first 0xff front' marked)))

greeting-first : (id : ℕ) (nonce : List ℕ) → First 0x0a (greeting_payload id nonce)
unfolding greeting_payload greeting_text opening_text
greeting-first id nonce = (_, refl)

clash-first : (payload : List ℕ) → First 0x0a payload → First 0x00 payload → ⊥
clash-first payload (rest, is) (rest', is') = cc

clash-error : (payload : List ℕ) → First 0x0a payload → First 0xff payload → ⊥
clash-error payload (rest, is) (rest', is') = cc

-- what a switch says
abbrev switch-says : Method → List ℕ → Heard
switch-says method nonce = Switches (record { plugin = method_name method; body = nonce ++ 0 ∷ [] }) 23

-- ## OK

abbrev pub IsNoOk : List ℕ → Type 0
IsNoOk payload = IsHeard payload Accepts → ⊥

-- a payload that says something else is no OK
other-no-ok : (payload : List ℕ) (heard : Heard) → IsHeard payload heard → (heard ≡ Accepts → ⊥) → IsNoOk payload
other-no-ok payload heard is other ok = other (one-meaning payload heard Accepts is ok)

pub error-no-ok : (error : Code) → IsNoOk (error_payload error)
error-no-ok error = other-no-ok (error_payload error) (Refuses (number_of error)) (error-heard error) (λ e. cc)

abbrev pub OkAfter : Reply → List ℕ → Type 0
OkAfter reply payload = Opens (Some reply) ⊎ IsNoOk payload

ok-kinds : Kinds IsNoOk OkAfter
ok-kinds = record {
  greeting = λ id nonce ok. clash-first _ (greeting-first id nonce) (ok-first ok.0 _ ok.1);
  switch = λ method nonce. other-no-ok (switch_payload method nonce) (switch-says method nonce) (switch-heard method nonce) (λ e. cc);
  fast = other-no-ok fast_payload Fast fast-heard (λ e. cc);
  full = other-no-ok full_payload Full full-heard (λ e. cc);
  bad = error-no-ok code.BadHandshake;
  ok = λ reply opens. inl opens;
  error = λ reply error. inr (error-no-ok error);
}

-- an OK is sent only after a reply that opens
pub ok-sent : (found : Option Reply) (payload : List ℕ) → IsEither IsNoOk OkAfter found payload → IsHeard payload Accepts → Opens found
ok-sent found payload either ok = ⊎_elim {C = Opens found}
    (λ (none : IsNoOk payload). absurd (none ok))
    (λ (after : (reply : Reply) × (found ≡ Some reply) × OkAfter reply payload). ⊎_elim {C = Opens found}
    (λ (opens : Opens (Some after.0)). subst (λ (o : Option Reply). Opens o) (sym after.1) opens)
    (λ (none : IsNoOk payload). absurd (none ok)) after.2)
    either

pub ok-owed : (id : ℕ) (packets : List Packet) (owns : List Input) → Each (IsEither IsNoOk OkAfter (first_reply owns)) (sent_by id packets owns)
ok-owed id packets owns = both-owed IsNoOk OkAfter (session id) 0 packets owns (session-says IsNoOk OkAfter ok-kinds id)

-- ## ERR

-- an ERR that is heard is the payload of an error with that number
abbrev pub IsError : ℕ → List ℕ → Type 0
IsError number payload = (error : Code) × (payload ≡ error_payload error) × (number_of error ≡ number)

abbrev pub IsTrueError : List ℕ → Type 0
IsTrueError payload = (number : ℕ) → IsHeard payload (Refuses number) → IsError number payload

other-no-error : (payload : List ℕ) (heard : Heard) → IsHeard payload heard → ((number : ℕ) → heard ≡ Refuses number → ⊥) → IsTrueError payload
other-no-error payload heard is other number refuses = absurd (other number (one-meaning payload heard (Refuses number) is refuses))

number-is : (a b : ℕ) → Refuses a ≡ Refuses b → a ≡ b
number-is a b e = cc

pub error-true : (error : Code) → IsTrueError (error_payload error)
error-true error number refuses = (error, refl, number-is _ _ (one-meaning (error_payload error) _ (Refuses number) (error-heard error) refuses))

abbrev pub ErrorAfter : Reply → List ℕ → Type 0
ErrorAfter reply payload = IsTrueError payload

error-kinds : Kinds IsTrueError ErrorAfter
error-kinds = record {
  greeting = λ id nonce number err. absurd (clash-error _ (greeting-first id nonce) (err-first err.0 _ err.1));
  switch = λ method nonce. other-no-error (switch_payload method nonce) (switch-says method nonce) (switch-heard method nonce) (λ n e. cc);
  fast = other-no-error fast_payload Fast fast-heard (λ n e. cc);
  full = other-no-error full_payload Full full-heard (λ n e. cc);
  bad = error-true code.BadHandshake;
  ok = λ reply opens. other-no-error ok_payload Accepts ok-heard (λ n e. cc);
  error = λ reply error. error-true error;
}

pub error-owed : (id : ℕ) (packets : List Packet) (owns : List Input) → Each (IsEither IsTrueError ErrorAfter (first_reply owns)) (sent_by id packets owns)
error-owed id packets owns = both-owed IsTrueError ErrorAfter (session id) 0 packets owns (session-says IsTrueError ErrorAfter error-kinds id)

pub error-sent : (found : Option Reply) (payload : List ℕ) → IsEither IsTrueError ErrorAfter found payload → IsTrueError payload
error-sent found payload either = ⊎_elim {C = IsTrueError payload}
    (λ (before : IsTrueError payload). before)
    (λ (after : (reply : Reply) × (found ≡ Some reply) × IsTrueError payload). after.2) either

-- ## A client

-- what was got was sent
pub got-sent : (got sent : List (List ℕ)) (payload : List ℕ) → IsBeginning got sent → Contains got payload → Contains sent payload
got-sent got sent payload (rest, is) among = subst (λ (l : List (List ℕ)). Contains l payload) (sym is) (Contains-append_left got rest payload among)

-- of payloads that have what is shown of a session's, an opening client got one after a reply that opens
pub opened-by : (found : Option Reply) (sent : List (List ℕ)) → Each (IsEither IsNoOk OkAfter found) sent →
    (claim : Claim) (got written : List (List ℕ)) → IsBeginning got sent → ClientTalk claim got written (Some end.Opened) → Opens found
opened-by found sent each claim got written begins talk =
    let told = client-told claim got written end.Opened talk in
    let among = got-sent got sent told.0 begins told.2 in
    ok-sent found told.0 (each-of (IsEither IsNoOk OkAfter found) sent told.0 each among)
    (subst (λ (h : Heard). IsHeard told.0 h) told.4 told.3)

-- and a refused one an error with that number
pub refused-by : (found : Option Reply) (sent : List (List ℕ)) → Each (IsEither IsTrueError ErrorAfter found) sent →
    (claim : Claim) (got written : List (List ℕ)) (number : ℕ) → IsBeginning got sent → ClientTalk claim got written (Some (end.Refused number)) →
    (error : Code) × Contains got (error_payload error) × (number_of error ≡ number)
refused-by found sent each claim got written number begins talk =
    let told = client-told claim got written (end.Refused number) talk in
    let among = got-sent got sent told.0 begins told.2 in
    let error = error-sent found told.0 (each-of (IsEither IsTrueError ErrorAfter found) sent told.0 each among) number
    (subst (λ (h : Heard). IsHeard told.0 h) told.4 told.3) in
    (error.0, subst (λ (p : List ℕ). Contains got p) error.1 told.2, error.2)
