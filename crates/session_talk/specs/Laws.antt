-- What holds of every talk.
use Rattle.std.specs.Prelude.{◌≡◌, ◌⊎◌, IsTrue, ℕ, false, List, [], ◌∷◌, ◌++◌, Some}
use Rattle.packet_frame.specs.Packets.{id_after}
use Rattle.packet_frame.specs.declared.packets.Packet.{Packet}
use Rattle.factor_chain.specs.CheckedOf.{CheckedOf}
use Rattle.factor_chain.specs.declared.credentials.Look.{Look}
use Rattle.factor_chain.specs.declared.evidence_list.Evidence.{Evidence}
use Rattle.account_history.specs.declared.entries.Entry.{Entry}
use Rattle.account_history.specs.Preparing.{PreparedOf}
use Rattle.account_history.specs.declared.entries.Reply.{Reply}
use Rattle.account_history.specs.declared.entries.StmtReply.{StmtReply}
use Rattle.session_talk.specs.Bounds.{Within}
use Rattle.session_talk.specs.Conversation.{Conversation, Goes, Move, Sent as Send, Settled}
use Rattle.session_talk.specs.Given.{Given, IsDone, Reads, Transcribes, asked_after, begins}
use Rattle.packet_stream.specs.Streams.{Stream, all_of, with_more}
use Rattle.session_talk.specs.Logins.{session, settling}
use Rattle.session_talk.specs.Owed as owing
use Rattle.session_talk.specs.Owed.{owed}
use Rattle.session_talk.specs.Runs.{AllAnswer, EachAnswers, Standing, ending_by, owns_in, packets_in, spoken, stands_after}
use Rattle.packet_stream.specs.Sent.{sent_from}
use Rattle.session_talk.specs.Statements.{committing}
use Rattle.session_talk.specs.Talk.{Own, SessionTalk}
use Rattle.session_talk.specs.Transcript.{Open, Peer}
use Rattle.session_talk.specs.Turns.{Answers, IsAsked, IsBegun, IsFitting, asked, is_answer, is_read, rest, said, wanted_by}
use Rattle.session_talk.specs.Wired as wiring
use Rattle.session_talk.specs.Wired.{wired}
use Rattle.session_talk.specs.declared.actions.Ask.TheVariants as ask
use Rattle.session_talk.specs.declared.attempts.Attempting.{Attempting}
use Rattle.session_talk.specs.declared.inputs.Input.{Input}
use Rattle.session_talk.specs.declared.inputs.Input.TheVariants as input
use Rattle.session_talk.specs.declared.open_session.OpenSession.{OpenSession}
use Rattle.stmt_rules.specs.declared.statement.Statement.{Statement}

-- What is owed goes on: for further packets and answers it is what was owed before, and what the talk that then stood
-- owes for them.
abbrev pub OwedGoesOn : Type 0
OwedGoesOn =
    (next : ℕ) (t : SessionTalk) (packets more : List Packet) (owns others : List Input) →
    let before = owed next t packets owns in
    owed next t (packets ++ more) (owns ++ others)
    ≡ owing.after_all_sent before.sent (owed before.next before.at (before.unread ++ more) (before.unused ++ others))

-- The same over bytes, however they are cut.
abbrev pub WiredGoesOn : Type 0
WiredGoesOn =
    (next : ℕ) (t : SessionTalk) (stream : Stream) (more : List ℕ) (owns others : List Input) →
    let before = wired next t stream owns in
    wired next t (with_more stream more) (owns ++ others)
    ≡ wiring.after_all_sent before.sent (wired before.next before.at (with_more before.unread more) (before.unused ++ others))

-- Over a list of inputs that answer what was asked, a session sends what is owed for the packets and the answers among
-- them, and stands where those leave it.
abbrev pub RunsAreOwed : Type 0
RunsAreOwed =
    (s : Standing) (inputs : List Input) → AllAnswer s inputs →
    let after = stands_after s inputs in
    owed s.next s.at (packets_in inputs) (owns_in inputs)
    ≡ owing.after_all_sent (spoken s inputs) (owed after.next after.at [] [])

-- Where reading ends with an input, it is the last one that is answered. Over a list of such inputs a session sends what
-- is owed for the packets and the answers among them, all of which it has come to, and then what it says of the end,
-- the first payload with the id behind the one that was wanted; and it stands where that leaves it.
pub record RunsEndAsOwed : Type 0 where
  pub ends_last : (s : Standing) (inputs : List Input) → EachAnswers s inputs →
      AllAnswer s inputs
      ⊎ ((before : List Input) × (last : Input) × (t : SessionTalk) × (inputs ≡ before ++ last ∷ []) × AllAnswer s before × (ending_by last ≡ Some t))
  pub is_told : (s : Standing) (before : List Input) (last : Input) (t : SessionTalk) → EachAnswers s (before ++ last ∷ []) → ending_by last ≡ Some t →
      let o = owed s.next s.at (packets_in before) (owns_in before) in
      (spoken s (before ++ last ∷ []) ≡ o.sent ++ sent_from (id_after (wanted_by o.next o.at)) (said t))
      × ((stands_after s (before ++ last ∷ [])).at ≡ rest t)
      × (o.unread ≡ []) × (o.unused ≡ [])

-- Where a packet is waited for, the bytes and the peer behind them give one input and leave the same bytes, or none
-- exactly where nothing more comes of them.
pub record ReadingIsDetermined : Type 0 where
  pub comes : (peer : Peer) (want : ℕ) (stream : Stream) →
      IsDone peer (ask.Read want) stream ⊎ ((given : Input) × (left : Stream) × IsTrue (is_read given) × Reads peer want stream given left)
  pub only_one : (peer : Peer) (want : ℕ) (stream : Stream) (given other : Input) (left others : Stream) →
      IsTrue (is_read given) → Reads peer want stream given left → IsTrue (is_read other) → Reads peer want stream other others →
      (given ≡ other) × (left ≡ others)
  pub none_yet : (peer : Peer) (want : ℕ) (stream : Stream) (given : Input) (left : Stream) →
      IsDone peer (ask.Read want) stream → IsTrue (is_read given) → Reads peer want stream given left → ⊥

-- What a new session does, over inputs that answer what was asked and that these bytes, this peer and these entries give,
-- stands in a transcript.
pub record RunsAreTranscripts : Type 0 where
  -- of them, once nothing more comes
  pub whole : (id : ℕ) (peer : Peer) (bytes : List ℕ) (entries : List Entry) (inputs : List Input) (left : Stream) →
      EachAnswers (begins id) inputs → Given peer (begins id) (all_of bytes) entries inputs left → IsDone peer (asked_after id inputs) left →
      Transcribes id peer bytes entries inputs
  -- and, at any time before reading has ended, of the bytes that were read, with the peer open behind them
  pub so_far : (id : ℕ) (peer : Peer) (bytes : List ℕ) (entries : List Entry) (inputs : List Input) (left : Stream) →
      AllAnswer (begins id) inputs → Given peer (begins id) (all_of bytes) entries inputs left →
      (read : List ℕ) × (bytes ≡ read ++ left.bytes) × Transcribes id Open read entries inputs

-- An attempt is a conversation exactly where it is the beginning of a session that ends in a settling and in what is
-- sent because of it.
pub record ConversationsAreRuns : Type 0 where
  pub each_goes : (id : ℕ) (moves : List Move) (reply : Reply) → Conversation id moves reply →
      (after : SessionTalk) × Goes (session id) moves after
  pub each_is : (id : ℕ) (before : List Move) (user : List ℕ) (evidences : List Evidence) (flags : ℕ) (reply : Reply) (payload : List ℕ) (after : SessionTalk) →
      Goes (session id) (before ++ Settled user evidences flags reply ∷ Send payload ∷ []) after →
      Conversation id (before ++ Settled user evidences flags reply ∷ Send payload ∷ []) reply

-- What answers the question that a session asked, answers the session.
abbrev pub AsksAreAnswered : Type 0
AsksAreAnswered =
    (next : ℕ) (t : SessionTalk) (given : Input) → IsBegun t → Answers (asked next t) given → IsTrue (is_answer t given) × IsAsked t given

-- What is given back as it was asked about, is what the session asked about.
abbrev pub WhatFitsIsAsked : Type 0
WhatFitsIsAsked = (next : ℕ) (t : SessionTalk) (given : Input) → IsFitting (Own (asked next t)) given → IsAsked t given

-- A session asks at most eight questions between two packets.
abbrev pub SessionsAreBounded : Type 0
SessionsAreBounded = (id : ℕ) → Within 8 (session id)

-- A stale answer changes nothing of what a session sends, nor of what follows: once, and twice.
pub record StaleChangesNothing : Type 0 where
  pub once : (next : ℕ) (a : Attempting) (look again : Look) (evidences back : List Evidence) (checked : CheckedOf) (reply : Reply) (packets : List Packet) (owns : List Input) →
      owed next (settling false a (record { look = look; evidences = evidences })) packets
      (input.Stale back ∷ input.Looked again ∷ input.Checked checked ∷ input.Settled reply ∷ owns)
      ≡ owed next (settling false a (record { look = look; evidences = evidences })) packets (input.Settled reply ∷ owns)
  pub twice : (next : ℕ) (a : Attempting) (look again : Look) (evidences back later : List Evidence) (checked : CheckedOf) (reply : Reply) (packets : List Packet) (owns : List Input) →
      owed next (settling false a (record { look = look; evidences = evidences })) packets
      (input.Stale back ∷ input.Looked again ∷ input.Checked checked ∷ input.Stale later ∷ input.Settled reply ∷ owns)
      ≡ owed next (settling false a (record { look = look; evidences = evidences })) packets (input.Settled reply ∷ owns)

-- Nor for a statement: once, and twice. The salt that was drawn stays.
pub record StaleStatementsChangeNothing : Type 0 where
  pub once : (next : ℕ) (goes_on : OpenSession → SessionTalk) (opened : OpenSession) (prepared anew : PreparedOf) (back : Statement) (again : Look) (reply : StmtReply) (packets : List Packet) (owns : List Input) →
      owed next (committing goes_on false opened prepared) packets
      (input.StaleStatement back ∷ input.Looked again ∷ input.Prepared anew ∷ input.Ran reply ∷ owns)
      ≡ owed next (committing goes_on false opened prepared) packets (input.Ran reply ∷ owns)
  pub twice : (next : ℕ) (goes_on : OpenSession → SessionTalk) (opened : OpenSession) (prepared anew : PreparedOf) (back later : Statement) (again : Look) (reply : StmtReply) (packets : List Packet) (owns : List Input) →
      owed next (committing goes_on false opened prepared) packets
      (input.StaleStatement back ∷ input.Looked again ∷ input.Prepared anew ∷ input.StaleStatement later ∷ input.Ran reply ∷ owns)
      ≡ owed next (committing goes_on false opened prepared) packets (input.Ran reply ∷ owns)
