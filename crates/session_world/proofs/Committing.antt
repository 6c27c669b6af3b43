-- What a turn with an account statement leads to.
use Rattle.std.proofs.Common.{◌≡◌, ◌≢◌, refl, ap, sym, ◌∙◌, ℕ, Bool, true, false, if◌then◌else◌, List, [], ◌++◌}
use Rattle.account_history.specs.Preparing.{PreparedOf}
use Rattle.account_history.specs.declared.entries.Entry.TheVariants.{Executed}
use Rattle.account_history.specs.declared.entries.Execution.{Execution}
use Rattle.account_history.specs.declared.entries.StmtReply.{StmtReply}
use Rattle.factor_chain.specs.declared.credentials.Look.{Look}
use Rattle.interaction.specs.Talk.{Says, Hears, Asks, Over}
use Rattle.packet_stream.specs.Streams.{Stream}
use Rattle.session_talk.specs.Statements.{no_salt}
use Rattle.session_talk.specs.Talk.{Begins, Own, SessionTalk}
use Rattle.session_talk.specs.Turns.{IsBegun, asked, first_id, heard, question, wanted_by}
use Rattle.session_talk.specs.declared.actions.Ask.{Ask}
use Rattle.session_talk.specs.declared.actions.Ask.TheVariants as ask
use Rattle.session_talk.specs.declared.inputs.Input.{Input}
use Rattle.session_talk.specs.declared.inputs.Input.TheVariants as input
use Rattle.stmt_rules.specs.declared.statement.Statement.{Statement}
use Rattle.world_table.specs.Printing.{Adds, Stale, entry_line, line_text}
use Rattle.world_table.specs.Statements.{executed, with_execution}
use Rattle.world_table.specs.Table.{Common, is_stale, next_number}
use Rattle.session_world.specs.declared.calls.Calls.{Calls}
use Rattle.session_world.specs.declared.calls.Calls.TheVariants.{Nothing}
use Rattle.session_world.specs.declared.calls.Peer.{Peer}
use Rattle.session_world.specs.declared.output.Output.{Output}
use Rattle.session_world.specs.Going.{Gone, after_line, executing, going, spent}
use Rattle.session_world.specs.Leading.{Acted, IsExecutionAsked, Leads}
use Rattle.session_world.proofs.Turned.{leads_by, quietly}
use Rattle.session_world.proofs.Turning.{allowed}

abbrev prepared_of : Look → Statement → (salt : List ℕ) → (actor : ℕ) → PreparedOf
prepared_of look statement salt actor = record { look = look; statement = statement; salt = salt; actor = actor }

module _ (peer : Peer) (calls : Calls) (c : Common) (next : ℕ) (stream : Stream) where
  abbrev with_input : Calls → Common → SessionTalk → Input → Gone
  with_input more d t given = going peer more d (first_id next t given) (heard t given) stream

  -- a statement is prepared
  on_prepare : (t : SessionTalk) (look : Look) (statement : Statement) (salt : List ℕ) (actor : ℕ) (prepared : PreparedOf) → IsBegun t →
      asked next t ≡ ask.Prepare look statement salt actor → prepared ≡ record { look = look; statement = statement; salt = salt; actor = actor } →
      going peer calls c next t stream ≡ with_input calls c t (input.Prepared prepared)
  unfolding going question heard wanted_by
  on_prepare (Asks (Own (ask.Prepare look' statement' salt' actor')) k) look statement salt actor prepared begun asks is =
      ap (λ (p : PreparedOf). going peer calls c next (k (input.Prepared p)) stream) (same asks ∙ sym is)
    where
      same_look : ask.Prepare look' statement' salt' actor' ≡ ask.Prepare look statement salt actor → look' ≡ look
      same_look e = cc

      same_statement : ask.Prepare look' statement' salt' actor' ≡ ask.Prepare look statement salt actor → statement' ≡ statement
      same_statement e = cc

      same_salt : ask.Prepare look' statement' salt' actor' ≡ ask.Prepare look statement salt actor → salt' ≡ salt
      same_salt e = cc

      same_actor : ask.Prepare look' statement' salt' actor' ≡ ask.Prepare look statement salt actor → actor' ≡ actor
      same_actor e = cc

      same : ask.Prepare look' statement' salt' actor' ≡ ask.Prepare look statement salt actor →
          prepared_of look' statement' salt' actor' ≡ prepared_of look statement salt actor
      same e = λ i. record { look = same_look e i; statement = same_statement e i; salt = same_salt e i; actor = same_actor e i }
  on_prepare (Says payload t) look statement salt actor prepared begun asks is = absurd begun
  on_prepare _ look statement salt actor prepared begun asks is = absurd (cc)

  -- what the execution of a prepared statement leads to
  abbrev committed : PreparedOf → ℕ → (Input → SessionTalk) → Bool → Gone
  committed prepared actor k late =
      if late then after_line Stale (going peer (spent calls) c next (k (input.StaleStatement prepared.statement)) stream)
      else executing c (executed c prepared.statement prepared.salt actor)
      (λ d. going peer (spent calls) d next (k (input.Ran (executed c prepared.statement prepared.salt actor).reply)) stream)

  abbrev execution_at : Execution → SessionTalk → Gone
  execution_at execution t =
      after_line (Adds (next_number c) (Executed execution)) (with_input (spent calls) (with_execution c execution) t (input.Ran execution.reply))

  on_stale : (t : SessionTalk) (prepared : PreparedOf) (actor : ℕ) → calls ≢ Nothing → IsBegun t → asked next t ≡ ask.Commit prepared actor →
      is_stale c prepared.look ≡ true →
      going peer calls c next t stream ≡ after_line Stale (with_input (spent calls) c t (input.StaleStatement prepared.statement))
  unfolding going question heard wanted_by
  on_stale (Asks (Own (ask.Commit prepared' actor')) k) prepared actor some begun asks late =
      allowed peer calls c next stream calls _ _ some
      ∙ (ap (λ (b : Bool). committed prepared' actor' k b) (ap (λ (p : PreparedOf). is_stale c p.look) (same asks) ∙ late)
      ∙ ap (λ (p : PreparedOf). after_line Stale (going peer (spent calls) c next (k (input.StaleStatement p.statement)) stream)) (same asks))
    where
      same : ask.Commit prepared' actor' ≡ ask.Commit prepared actor → prepared' ≡ prepared
      same e = cc
  on_stale (Says payload t) prepared actor some begun asks late = absurd begun
  on_stale _ prepared actor some begun asks late = absurd (cc)

  on_commit : (t : SessionTalk) (prepared : PreparedOf) (actor : ℕ) → calls ≢ Nothing → IsBegun t → asked next t ≡ ask.Commit prepared actor →
      is_stale c prepared.look ≡ false → going peer calls c next t stream ≡ execution_at (executed c prepared.statement prepared.salt actor) t
  unfolding going question heard wanted_by
  on_commit (Asks (Own (ask.Commit prepared' actor')) k) prepared actor some begun asks fresh =
      allowed peer calls c next stream calls _ _ some
      ∙ (ap (λ (b : Bool). committed prepared' actor' k b) (ap (λ (p : PreparedOf). is_stale c p.look) (same asks) ∙ fresh)
      ∙ (ap (λ (p : PreparedOf). execution_at (executed c p.statement p.salt actor') (Asks (Own (ask.Commit prepared' actor')) k)) (same asks)
      ∙ ap (λ (a : ℕ). execution_at (executed c prepared.statement prepared.salt a) (Asks (Own (ask.Commit prepared' actor')) k)) (same_actor asks)))
    where
      same : ask.Commit prepared' actor' ≡ ask.Commit prepared actor → prepared' ≡ prepared
      same e = cc

      same_actor : ask.Commit prepared' actor' ≡ ask.Commit prepared actor → actor' ≡ actor
      same_actor e = cc
  on_commit (Says payload t) prepared actor some begun asks fresh = absurd begun
  on_commit _ prepared actor some begun asks fresh = absurd (cc)

  on_locked : (t : SessionTalk) (statement : Statement) (salt : List ℕ) (actor : ℕ) → calls ≢ Nothing → IsBegun t →
      asked next t ≡ ask.CommitLocked statement salt actor → going peer calls c next t stream ≡ execution_at (executed c statement salt actor) t
  unfolding going question heard wanted_by
  on_locked (Asks (Own (ask.CommitLocked statement' salt' actor')) k) statement salt actor some begun asks =
      allowed peer calls c next stream calls _ _ some
      ∙ (ap (λ (st : Statement). execution_at (executed c st salt' actor') t') (same_statement asks)
      ∙ (ap (λ (s : List ℕ). execution_at (executed c statement s actor') t') (same_salt asks)
      ∙ ap (λ (a : ℕ). execution_at (executed c statement salt a) t') (same_actor asks)))
    where
      t' : SessionTalk
      t' = Asks (Own (ask.CommitLocked statement' salt' actor')) k

      same_statement : ask.CommitLocked statement' salt' actor' ≡ ask.CommitLocked statement salt actor → statement' ≡ statement
      same_statement e = cc

      same_salt : ask.CommitLocked statement' salt' actor' ≡ ask.CommitLocked statement salt actor → salt' ≡ salt
      same_salt e = cc

      same_actor : ask.CommitLocked statement' salt' actor' ≡ ask.CommitLocked statement salt actor → actor' ≡ actor
      same_actor e = cc
  on_locked (Says payload t) statement salt actor some begun asks = absurd begun
  on_locked _ statement salt actor some begun asks = absurd (cc)

  on_plain : (t : SessionTalk) (statement : Statement) (actor : ℕ) → calls ≢ Nothing → IsBegun t →
      asked next t ≡ ask.CommitPlain statement actor → going peer calls c next t stream ≡ execution_at (executed c statement no_salt actor) t
  unfolding going question heard wanted_by
  on_plain (Asks (Own (ask.CommitPlain statement' actor')) k) statement actor some begun asks =
      allowed peer calls c next stream calls _ _ some
      ∙ (ap (λ (st : Statement). execution_at (executed c st no_salt actor') t') (same_statement asks)
      ∙ ap (λ (a : ℕ). execution_at (executed c statement no_salt a) t') (same_actor asks))
    where
      t' : SessionTalk
      t' = Asks (Own (ask.CommitPlain statement' actor')) k

      same_statement : ask.CommitPlain statement' actor' ≡ ask.CommitPlain statement actor → statement' ≡ statement
      same_statement e = cc

      same_actor : ask.CommitPlain statement' actor' ≡ ask.CommitPlain statement actor → actor' ≡ actor
      same_actor e = cc
  on_plain (Says payload t) statement actor some begun asks = absurd begun
  on_plain _ statement actor some begun asks = absurd (cc)

-- ## What the code does

module _ (session : ℕ) (next : ℕ) (t : SessionTalk) (here now_here : Output) (next_after : ℕ) (after : SessionTalk) where
  pub prepare_leads : (peer : Peer) (calls : Calls) (c : Common) (stream : Stream) (look : Look) (statement : Statement) (salt : List ℕ) (actor : ℕ)
      (prepared : PreparedOf) → IsBegun t → asked next t ≡ ask.Prepare look statement salt actor →
      prepared ≡ record { look = look; statement = statement; salt = salt; actor = actor } →
      Acted session next t (input.Prepared prepared) here now_here next_after after →
      Leads session peer now_here calls c next_after after stream here calls c next t stream
  prepare_leads peer calls c stream look statement salt actor prepared begun asks is a =
      quietly session peer next t here now_here next_after after calls calls c c (input.Prepared prepared) stream stream a
      (on_prepare peer calls c next stream t look statement salt actor prepared begun asks is)

  -- a stale answer
  pub stale_leads : (peer : Peer) (calls : Calls) (c : Common) (stream : Stream) (prepared : PreparedOf) (actor : ℕ) (statement : Statement) (middle : Output) →
      calls ≢ Nothing → IsBegun t → asked next t ≡ ask.Commit prepared actor → is_stale c prepared.look ≡ true → statement ≡ prepared.statement →
      middle ≡ record here { lines = here.lines ++ line_text session Stale } →
      Acted session next t (input.StaleStatement statement) middle now_here next_after after →
      Leads session peer now_here (spent calls) c next_after after stream here calls c next t stream
  stale_leads peer calls c stream prepared actor statement middle some begun asks late is printed a =
      leads_by session next t here now_here next_after after peer calls (spent calls) c c Stale (input.StaleStatement statement) stream middle refl printed a
      (on_stale peer calls c next stream t prepared actor some begun asks late
      ∙ ap (λ (st : Statement). after_line Stale (going peer (spent calls) c (first_id next t (input.StaleStatement st)) (heard t (input.StaleStatement st)) stream)) (sym is))

  -- how a session goes on behind the line of an execution
  abbrev goes_behind : Peer → Calls → Common → Stream → Execution → Common → StmtReply → Gone
  goes_behind peer calls c stream execution d reply =
      after_line (Adds (next_number c) (Executed execution))
      (going peer (spent calls) d (first_id next t (input.Ran reply)) (heard t (input.Ran reply)) stream)

  -- a statement is executed
  executed_so : (peer : Peer) (calls : Calls) (c d : Common) (stream : Stream) (execution : Execution) (reply : StmtReply) (middle : Output) →
      reply ≡ execution.reply → d ≡ with_execution c execution →
      middle ≡ record here { lines = here.lines ++ entry_line (next_number c) (Executed execution) } →
      Acted session next t (input.Ran reply) middle now_here next_after after →
      going peer calls c next t stream ≡ execution_at peer calls c next stream execution t →
      Leads session peer now_here (spent calls) d next_after after stream here calls c next t stream
  unfolding line_text
  executed_so peer calls c d stream execution reply middle is common printed a goes =
      leads_by session next t here now_here next_after after peer calls (spent calls) c d (Adds (next_number c) (Executed execution)) (input.Ran reply) stream middle
      refl printed a
      (goes
      ∙ (ap (λ (r : StmtReply). goes_behind peer calls c stream execution (with_execution c execution) r) (sym is)
      ∙ ap (λ (x : Common). goes_behind peer calls c stream execution x reply) (sym common)))

  pub commit_leads : (peer : Peer) (calls : Calls) (c d : Common) (stream : Stream) (prepared : PreparedOf) (actor : ℕ) (reply : StmtReply) (middle : Output) →
      calls ≢ Nothing → IsBegun t → asked next t ≡ ask.Commit prepared actor → is_stale c prepared.look ≡ false →
      reply ≡ (executed c prepared.statement prepared.salt actor).reply → d ≡ with_execution c (executed c prepared.statement prepared.salt actor) →
      middle ≡ record here { lines = here.lines ++ entry_line (next_number c) (Executed (executed c prepared.statement prepared.salt actor)) } →
      Acted session next t (input.Ran reply) middle now_here next_after after →
      Leads session peer now_here (spent calls) d next_after after stream here calls c next t stream
  commit_leads peer calls c d stream prepared actor reply middle some begun asks fresh is common printed a =
      executed_so peer calls c d stream (executed c prepared.statement prepared.salt actor) reply middle is common printed a
      (on_commit peer calls c next stream t prepared actor some begun asks fresh)

  pub execute_leads : (asks : Ask) (peer : Peer) (calls : Calls) (c d : Common) (stream : Stream) (statement : Statement) (salt : List ℕ) (actor : ℕ)
      (reply : StmtReply) (middle : Output) → calls ≢ Nothing → IsBegun t → asked next t ≡ asks → IsExecutionAsked asks statement salt actor →
      reply ≡ (executed c statement salt actor).reply → d ≡ with_execution c (executed c statement salt actor) →
      middle ≡ record here { lines = here.lines ++ entry_line (next_number c) (Executed (executed c statement salt actor)) } →
      Acted session next t (input.Ran reply) middle now_here next_after after →
      Leads session peer now_here (spent calls) d next_after after stream here calls c next t stream
  execute_leads (ask.CommitLocked what salted asking) peer calls c d stream statement salt actor reply middle some begun asks (what_is, salt_is, asking_is) is common printed a =
      executed_so peer calls c d stream (executed c statement salt actor) reply middle is common printed a
      (on_locked peer calls c next stream t what salted asking some begun asks
      ∙ (ap (λ (st : Statement). execution_at peer calls c next stream (executed c st salted asking) t) what_is
      ∙ (ap (λ (s : List ℕ). execution_at peer calls c next stream (executed c statement s asking) t) salt_is
      ∙ ap (λ (n : ℕ). execution_at peer calls c next stream (executed c statement salt n) t) asking_is)))
  execute_leads (ask.CommitPlain what asking) peer calls c d stream statement salt actor reply middle some begun asks (what_is, salt_is, asking_is) is common printed a =
      executed_so peer calls c d stream (executed c statement salt actor) reply middle is common printed a
      (on_plain peer calls c next stream t what asking some begun asks
      ∙ (ap (λ (st : Statement). execution_at peer calls c next stream (executed c st no_salt asking) t) what_is
      ∙ (ap (λ (s : List ℕ). execution_at peer calls c next stream (executed c statement s asking) t) salt_is
      ∙ ap (λ (n : ℕ). execution_at peer calls c next stream (executed c statement salt n) t) asking_is)))
  execute_leads _ peer calls c d stream statement salt actor reply middle some begun asks is_asked is common printed a = absurd is_asked
