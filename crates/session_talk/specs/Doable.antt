-- What a session asks can be done: a statement in an ask is one that a text is read to, a salt is of the alphabet of salts,
-- and a statement that was prepared is executed for the account that it was prepared for.
use Rattle.std.specs.Prelude.{◌≡◌, IsTrue, ℕ, List}
use Rattle.account_history.specs.Preparing.{is_preparable}
use Rattle.interaction.specs.Talk.{Got, Says, Hears, Asks, Over}
use Rattle.session_talk.specs.Logins.{session}
use Rattle.session_talk.specs.Talk.{Begins, Own, Question, SessionTalk}
use Rattle.session_talk.specs.Turns.{IsBegun, answers, ask_of, asked, heard, is_answer, is_nonce, rest}
use Rattle.session_talk.specs.declared.actions.Ask.{Ask}
use Rattle.session_talk.specs.declared.actions.Ask.TheVariants as ask
use Rattle.session_talk.specs.declared.inputs.Input.{Input}
use Rattle.stmt_syntax.specs.Reading.{IsReadable}

abbrev pub CanBeDone : Ask → Type 0
CanBeDone (ask.Prepare look statement salt actor) = IsReadable statement × IsTrue (is_preparable statement) × IsTrue (is_nonce salt)
CanBeDone (ask.Commit prepared actor) = IsReadable prepared.statement × IsTrue (is_nonce prepared.salt) × (actor ≡ prepared.actor)
CanBeDone (ask.CommitLocked statement salt actor) = IsReadable statement × IsTrue (is_preparable statement) × IsTrue (is_nonce salt)
CanBeDone (ask.CommitPlain statement actor) = IsReadable statement
CanBeDone _ = Unit {0}

-- a packet and the end of a session are asks that are never put as a question
abbrev pub IsQuestion : Question → Type 0
IsQuestion (Own (ask.Read want)) = ⊥
IsQuestion (Own (ask.Ended how)) = ⊥
IsQuestion _ = Unit {0}

-- whatever is read, and whatever answers its questions, a session asks for what can be done
abbrev pub AsksWell : SessionTalk → Type 0
AsksWell (Says payload t) = AsksWell t
AsksWell (Hears anew k) = (payload : List ℕ) → AsksWell (k (Got payload))
AsksWell (Asks q k) = IsQuestion q × CanBeDone (ask_of q) × ((given : Input) → IsTrue (answers q given) → AsksWell (k given))
AsksWell (Over how) = Unit {0}

-- A new session asks for what can be done, and goes on so with each input that answers it.
pub record AsksCanBeDone : Type 0 where
  pub begins : (id : ℕ) → AsksWell (session id)
  pub goes_on : (t : SessionTalk) (given : Input) → AsksWell t → IsTrue (is_answer t given) → AsksWell (rest (heard t given))
  pub asks : (next : ℕ) (t : SessionTalk) → IsBegun t → AsksWell t → CanBeDone (asked next t)
