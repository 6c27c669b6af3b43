-- Each beginning of a session that ends in a settling, and in what is sent because of it, is a conversation.
use Rattle.std.proofs.Common.{◌≡◌, ◌≢◌, refl, ap, sym, ◌∙◌, subst, inl, inr, ℕ, zero, suc, Bool, true, false, List, [], ◌∷◌, ◌++◌, Result, Ok, Err}
use Rattle.std.proofs.lemmas.Slice.Eq.{bytes_eq-Decides}
use Rattle.lg_base.specs.declared.errors.Code.{Code}
use Rattle.factor_chain.specs.Checking.{known_fits_of}
use Rattle.factor_chain.specs.declared.credentials.Look.{Look}
use Rattle.factor_chain.specs.declared.credentials.Method.{Method}
use Rattle.factor_chain.specs.declared.credentials.Method.TheVariants.{Native, CachingSha2}
use Rattle.factor_chain.specs.declared.evidence_list.Evidence.{Evidence}
use Rattle.account_history.specs.Preparing.{is_preparable}
use Rattle.account_history.specs.Refusals.{auth_of}
use Rattle.account_history.specs.declared.entries.Reply.{Reply}
use Rattle.account_history.specs.declared.entries.StmtReply.{StmtReply}
use Rattle.account_history.specs.declared.entries.Who.{Who}
use Rattle.account_history.specs.declared.entries.Who.TheVariants.{Login}
use Rattle.wire_form.specs.Payloads.{start}
use Rattle.auth_packets.specs.Commands.{command}
use Rattle.auth_packets.specs.Handshake.{response}
use Rattle.auth_packets.specs.declared.commands.Command.{Command}
use Rattle.auth_packets.specs.declared.commands.Command.TheVariants.{Quit, Query, Ping, Reset, ChangeUser as Change, Other, Nothing}
use Rattle.auth_packets.specs.declared.handshake.Response.{Response}
use Rattle.auth_packets.proofs.HandshakeLaws.{response-lawful}
use Rattle.interaction.specs.Talk.{Over, Says}
use Rattle.session_talk.specs.declared.attempts.Attempting.{Attempting}
use Rattle.session_talk.specs.declared.ends.SessionEnd.{SessionEnd}
use Rattle.session_talk.specs.declared.open_session.OpenSession.{OpenSession}
use Rattle.stmt_rules.specs.declared.statement.Statement.{Statement}
use Rattle.session_talk.specs.Conversation.{Conversation, Goes, Move, Drew, Sent, Got, Looked, Stale, Settled, Exchange, Named, Switched, IsExchange, exchange_moves, nonce_in, answer_in, Proof, Blank, Answered, Known, Clear, IsBlank, IsProof, proof_moves, evidence_in, Settling, AtOnce, Once, Twice, last_payload, greeting_moves}
use Rattle.session_talk.specs.Logins.{answered, answering, attempt_of, caching, claim_of, claimed, commanded, commands_left, decided, heard_by, is_blank, is_named, method_of, next_command, proved, proving, responded, session, with_left}
use Rattle.session_talk.specs.Statements.{executing, has_password, is_let_through, queried_for, salted, stated, statement_in}
use Rattle.session_talk.specs.Talk.{SessionTalk, commits_plain, prepares, on_checked, on_drawn, on_locked, on_look, on_settled, on_start}
use Rattle.session_talk.specs.Texts.{fast_payload, full_payload, method_name, switch_payload}
use Rattle.session_talk.proofs.Conversing.{last_moves}

module _ (user : List ℕ) (evidences : List Evidence) (flags : ℕ) (reply : Reply) (payload : List ℕ) (after : SessionTalk) where
  -- a settling, and what is sent because of it
  abbrev tail : List Move
  tail = Settled user evidences flags reply ∷ Sent payload ∷ []

  tail_is : (u : List ℕ) (e : List Evidence) (f : ℕ) (p : List ℕ) → user ≡ u → evidences ≡ e → flags ≡ f → payload ≡ p →
      tail ≡ Settled u e f reply ∷ Sent p ∷ []
  tail_is u e f p same_user same_evidences same_flags same_payload = cc

  -- ## Nothing is settled after the reply

  over : (how : SessionEnd) (before : List Move) → Goes (Over how) (before ++ tail) after → ⊥
  over how [] goes = goes
  over how (move ∷ before) goes = goes

  says_over : (how : SessionEnd) (told : List ℕ) (before : List Move) → Goes (Says told (Over how)) (before ++ tail) after → ⊥
  says_over how told (Sent p ∷ before) goes = over how before goes.1
  says_over how told _ goes = absurd goes

  says : (told : List ℕ) (t : SessionTalk) (before : List Move) → ((more : List Move) → Goes t (more ++ tail) after → ⊥) →
      Goes (Says told t) (before ++ tail) after → ⊥
  says told t (Sent p ∷ before) never goes = never before goes.1
  says told t _ never goes = absurd goes

  -- what prepares or executes a statement settles no attempt
  prepares_none : (look : Look) (statement : Statement) (salt : List ℕ) (actor : ℕ) (t : SessionTalk) (before : List Move) →
      Goes (prepares look statement salt actor t) (before ++ tail) after → ⊥
  prepares_none look statement salt actor t [] goes = goes
  prepares_none look statement salt actor t (move ∷ before) goes = goes

  executes_none : (statement : Statement) (actor : ℕ) (k : StmtReply → SessionTalk) (before : List Move) →
      Goes (commits_plain statement actor k) (before ++ tail) after → ⊥
  executes_none statement actor k [] goes = goes
  executes_none statement actor k (move ∷ before) goes = goes

  module _ (goes_on : OpenSession → SessionTalk) (never_on : (later : OpenSession) (more : List Move) → Goes (goes_on later) (more ++ tail) after → ⊥) where
    salted_none : (by : Bool) (opened : OpenSession) (look : Look) (statement : Statement) (before : List Move) →
        Goes (salted goes_on by opened look statement) (before ++ tail) after → ⊥
    unfolding on_drawn
    salted_none true opened look statement (Drew salt ∷ before) goes = prepares_none _ _ _ _ _ before goes
    salted_none true opened look statement _ goes = absurd goes
    salted_none false opened look statement before goes = prepares_none _ _ _ _ _ before goes

    executing_none : (preparable : Bool) (opened : OpenSession) (statement : Statement) (before : List Move) →
        Goes (executing goes_on preparable opened statement) (before ++ tail) after → ⊥
    unfolding on_look
    executing_none true opened statement (Looked who look ∷ before) goes = salted_none (has_password (auth_of statement)) opened look statement before goes.1
    executing_none true opened statement _ goes = absurd goes
    executing_none false opened statement before goes = executes_none _ _ _ before goes

    stated_none : (through : Bool) (opened : OpenSession) (statement : Statement) (before : List Move) →
        Goes (stated goes_on through opened statement) (before ++ tail) after → ⊥
    stated_none true opened statement before goes = executing_none (is_preparable statement) opened statement before goes
    stated_none false opened statement before goes = says _ (goes_on opened) before (never_on opened) goes

    queried_none : (opened : OpenSession) (found : Result Statement ℕ) (before : List Move) →
        Goes (queried_for goes_on opened found) (before ++ tail) after → ⊥
    queried_none opened (Ok statement) before goes = stated_none (is_let_through opened statement) opened statement before goes
    queried_none opened (Err place) before goes = says _ (goes_on opened) before (never_on opened) goes

    commanded_none : (found : Result Command ℕ) (opened : OpenSession) (before : List Move) →
        Goes (commanded found goes_on opened) (before ++ tail) after → ⊥
    commanded_none (Ok Quit) opened before goes = over _ before goes
    commanded_none (Ok Ping) opened before goes = says _ (goes_on opened) before (never_on opened) goes
    commanded_none (Ok Reset) opened before goes = says _ (goes_on opened) before (never_on opened) goes
    commanded_none (Ok (Query text)) opened before goes = queried_none opened (statement_in text) before goes
    commanded_none (Ok (Change v)) opened before goes = says _ (goes_on opened) before (never_on opened) goes
    commanded_none (Ok (Other first)) opened before goes = says _ (goes_on opened) before (never_on opened) goes
    commanded_none (Ok Nothing) opened before goes = says _ (goes_on opened) before (never_on opened) goes
    commanded_none (Err at) opened before goes = says _ (goes_on opened) before (never_on opened) goes

  never : (left : ℕ) (opened : OpenSession) (before : List Move) → Goes (commands_left left opened) (before ++ tail) after → ⊥
  unfolding next_command heard_by
  never zero opened (Got p ∷ before) goes = over _ before goes
  never (suc left) opened (Got p ∷ before) goes =
      commanded_none (commands_left left) (never left) (command.read (start p)) (with_left left opened) before goes
  never left opened _ goes = absurd goes

  never_again : (found : Result OpenSession Code) (before : List Move) → Goes (answered found) (before ++ tail) after → ⊥
  never_again (Ok opened) (Sent p ∷ before) goes = never opened.left opened before goes.1
  never_again (Ok opened) _ goes = absurd goes
  never_again (Err error) before goes = says_over _ _ before goes

  told : (found : Result OpenSession Code) → Goes (answered found) (Sent payload ∷ []) after → payload ≡ last_payload found
  told (Ok opened) goes = goes.0
  told (Err error) goes = goes.0

  -- ## The settling

  abbrev Settles_so : Attempting → Look → Evidence → List Move → Type 0
  Settles_so a look given moves = (settling : Settling) × (moves ≡ last_moves a look given settling reply)

  settles : (a : Attempting) (look : Look) (given : Evidence) (before : List Move) → Goes (proved a look given) (before ++ tail) after →
      Settles_so a look given (before ++ tail)
  unfolding on_look on_checked on_settled on_locked
  settles a look given [] goes = (AtOnce, tail_is _ _ _ _ goes.0 goes.1 goes.2 (told (decided a reply) goes.3))
  settles a look given (Settled u e f r ∷ before) goes = absurd (never_again (decided a r) before goes.3)
  settles a look given (Stale ∷ Looked who again ∷ []) goes = (Once again, moved)
    where
      moved : Stale ∷ Looked who again ∷ tail ≡ last_moves a look given (Once again) reply
      moved = ap (λ (w : Who). Stale ∷ Looked w again ∷ tail) goes.0
          ∙ ap (λ (ms : List Move). Stale ∷ Looked (Login a.user) again ∷ ms)
          (tail_is _ _ _ _ goes.1.0 goes.1.1 goes.1.2 (told (decided a reply) goes.1.3))
  settles a look given (Stale ∷ Looked who again ∷ Settled u e f r ∷ before) goes = absurd (never_again (decided a r) before goes.1.3)
  settles a look given (Stale ∷ Looked who again ∷ Stale ∷ []) goes = (Twice again, moved)
    where
      moved : Stale ∷ Looked who again ∷ Stale ∷ tail ≡ last_moves a look given (Twice again) reply
      moved = ap (λ (w : Who). Stale ∷ Looked w again ∷ Stale ∷ tail) goes.0
          ∙ ap (λ (ms : List Move). Stale ∷ Looked (Login a.user) again ∷ Stale ∷ ms)
          (tail_is _ _ _ _ goes.1.0 goes.1.1 goes.1.2 (told (decided a reply) goes.1.3))
  settles a look given (Stale ∷ Looked who again ∷ Stale ∷ Settled u e f r ∷ before) goes =
      absurd (never_again (decided a r) before goes.1.3)
  settles a look given (Stale ∷ Looked who again ∷ _) goes = absurd goes.1
  settles a look given _ goes = absurd goes

  -- ## The answer to a nonce

  abbrev Proves_so : Attempting → Look → (nonce bytes : List ℕ) → List Move → Type 0
  Proves_so a look nonce bytes moves = (proof : Proof) × IsProof look nonce bytes proof × (settling : Settling)
      × (moves ≡ proof_moves proof ++ last_moves a look (evidence_in nonce bytes proof) settling reply)

  blank_is : (bytes : List ℕ) → is_blank bytes ≡ true → IsBlank bytes
  blank_is [] e = inl refl
  blank_is (zero ∷ []) e = inr refl
  blank_is (suc b ∷ []) e = absurd (cc)
  blank_is (b ∷ c ∷ bytes) e = absurd (cc)

  not_blank : (bytes : List ℕ) → is_blank bytes ≡ false → ¬ IsBlank bytes
  not_blank bytes e (inl is) = differ (sym e ∙ ap is_blank is) where
    differ : false ≡ true → ⊥
    differ d = absurd (cc)
  not_blank bytes e (inr is) = differ (sym e ∙ ap is_blank is) where
    differ : false ≡ true → ⊥
    differ d = absurd (cc)

  caching_so : (a : Attempting) (look : Look) (nonce bytes : List ℕ) (known : Bool) (before : List Move) → ¬ IsBlank bytes → method_of look ≡ CachingSha2 →
      known_fits_of look.in_force nonce bytes ≡ known → Goes (caching a look nonce bytes known) (before ++ tail) after →
      Proves_so a look nonce bytes (before ++ tail)
  unfolding heard_by
  caching_so a look nonce bytes true (Sent p ∷ before) filled method knows goes =
      let s = settles a look _ before goes.1 in
      (Known, (filled, method, knows), s.0, ap (λ (q : List ℕ). Sent q ∷ (before ++ tail)) goes.0 ∙ ap (λ (ms : List Move). Sent fast_payload ∷ ms) s.1)
  caching_so a look nonce bytes false (Sent p ∷ Got text ∷ before) filled method knows goes =
      let s = settles a look _ before goes.1 in (
        Clear text,
        (filled, method, knows),
        s.0,
        ap (λ (q : List ℕ). Sent q ∷ Got text ∷ (before ++ tail)) goes.0 ∙ ap (λ (ms : List Move). Sent full_payload ∷ Got text ∷ ms) s.1,
      )
  caching_so a look nonce bytes false (Sent p ∷ _) filled method knows goes = absurd goes.1
  caching_so a look nonce bytes _ _ filled method knows goes = absurd goes

  proving_so : (a : Attempting) (look : Look) (nonce bytes : List ℕ) (method : Method) (before : List Move) → ¬ IsBlank bytes → method_of look ≡ method →
      Goes (proving a look nonce bytes method) (before ++ tail) after → Proves_so a look nonce bytes (before ++ tail)
  proving_so a look nonce bytes Native before filled method goes =
      let s = settles a look _ before goes in (Answered, (filled, method), s.0, s.1)
  proving_so a look nonce bytes CachingSha2 before filled method goes = caching_so a look nonce bytes _ before filled method refl goes

  answering_so : (a : Attempting) (look : Look) (nonce bytes : List ℕ) (blank : Bool) (before : List Move) → is_blank bytes ≡ blank →
      Goes (answering a look nonce bytes blank) (before ++ tail) after → Proves_so a look nonce bytes (before ++ tail)
  answering_so a look nonce bytes true before is goes =
      let s = settles a look _ before goes in (Blank, blank_is bytes is, s.0, s.1)
  answering_so a look nonce bytes false before is goes = proving_so a look nonce bytes _ before (not_blank bytes is) refl goes

  -- ## The method

  abbrev Claims_so : (nonce : List ℕ) → Response → Look → List Move → Type 0
  Claims_so nonce said look moves = (exchange : Exchange) × IsExchange said look exchange × (proof : Proof)
      × IsProof look (nonce_in nonce exchange) (answer_in said exchange) proof × (settling : Settling)
      × (moves ≡ exchange_moves look exchange ++ (proof_moves proof
      ++ last_moves (attempt_of said) look (evidence_in (nonce_in nonce exchange) (answer_in said exchange) proof) settling reply))

  claims_so : (nonce : List ℕ) (said : Response) (look : Look) (named : Bool) (before : List Move) → is_named (claim_of nonce said) look ≡ named →
      Goes (claimed (attempt_of said) (claim_of nonce said) look named) (before ++ tail) after → Claims_so nonce said look (before ++ tail)
  unfolding heard_by on_drawn
  claims_so nonce said look true before is goes =
      let s = answering_so (attempt_of said) look nonce said.auth _ before refl goes in
      (Named, (bytes_eq-Decides said.plugin (method_name (method_of look))).0 is, s.0, s.1, s.2, s.3)
  claims_so nonce said look false (Drew fresh ∷ Sent p ∷ Got bytes ∷ before) is goes =
      let s = answering_so (attempt_of said) look fresh bytes _ before refl goes.1 in (
        Switched fresh bytes,
        other,
        s.0,
        s.1,
        s.2,
        ap (λ (q : List ℕ). Drew fresh ∷ Sent q ∷ Got bytes ∷ (before ++ tail)) goes.0 ∙ ap (λ (ms : List Move). Drew fresh ∷ Sent (switch_payload (method_of look) fresh) ∷ Got bytes ∷ ms) s.3,
      )
    where
      differ : true ≡ false → ⊥
      differ d = absurd (cc)

      other : said.plugin ≢ method_name (method_of look)
      other e = differ (sym ((bytes_eq-Decides said.plugin (method_name (method_of look))).1 e) ∙ is)
  claims_so nonce said look false (Drew fresh ∷ Sent p ∷ _) is goes = absurd goes.1
  claims_so nonce said look false _ is goes = absurd goes

  -- ## The session

  responds_so : (id : ℕ) (nonce got : List ℕ) (found : Result Response ℕ) (before : List Move) → response.read (start got) ≡ found →
      Goes (responded nonce found) (before ++ tail) after → Conversation id (greeting_moves id nonce got ++ (before ++ tail)) reply
  unfolding on_look
  responds_so id nonce got (Ok said) (Looked who look ∷ before) is goes =
      let s = claims_so nonce said look _ before refl goes.1 in
      record {
        nonce = nonce;
        payload = got;
        said = said;
        look = look;
        exchange = s.0;
        proof = s.2;
        settling = s.4;
        spelled = response-lawful.found (start got) said is;
        exchanged = s.1;
        proved = s.3;
        laid_out = ap (λ (w : Who). greeting_moves id nonce got ++ (Looked w look ∷ (before ++ tail))) goes.0
            ∙ ap (λ (ms : List Move). greeting_moves id nonce got ++ (Looked (Login said.user) look ∷ ms)) s.5;
      }
  responds_so id nonce got (Ok said) _ is goes = absurd goes
  responds_so id nonce got (Err at) before is goes = absurd (says_over _ _ before goes)

  pub each_is : (id : ℕ) (before : List Move) → Goes (session id) (before ++ tail) after → Conversation id (before ++ tail) reply
  unfolding heard_by on_start
  each_is id (Drew nonce ∷ Sent p ∷ Got got ∷ before) goes =
      subst (λ (q : List ℕ). Conversation id (Drew nonce ∷ Sent q ∷ Got got ∷ (before ++ tail)) reply) (sym goes.0)
      (responds_so id nonce got _ before refl goes.1)
  each_is id (Drew nonce ∷ Sent p ∷ _) goes = absurd goes.1
  each_is id _ goes = absurd goes
