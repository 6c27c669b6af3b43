-- What all sessions of a world have in common, and what is answered and noted in it.
use Rattle.std.specs.Prelude.{◌≡◌, ℕ, ◌+◌, ◌≤◌, nat_lt, Bool, true, List, length}
use Rattle.factor_chain.specs.declared.credentials.Look.{Look}
use Rattle.factor_chain.specs.declared.evidence_list.Evidence.{Evidence}
use Rattle.account_history.specs.declared.entries.Entry.{Entry}
use Rattle.account_history.specs.declared.entries.Entry.TheVariants.{Attempted}
use Rattle.account_history.specs.declared.entries.Log.{Log}
use Rattle.account_history.specs.declared.entries.Reply.{Reply}
use Rattle.account_history.specs.declared.entries.Who.{Who}
use Rattle.account_history.specs.Answers.{attempt_reply, look_of}
use Rattle.account_history.specs.Histories.{history, noted}
use Rattle.account_history.specs.Legal.{last_count}
use Rattle.account_history.specs.Stamps.{stamp}
use Rattle.world_table.specs.Attempts.{opened_in, refused_in}

-- what all sessions of a world have in common: the history, the reading of the clock, how many nonces and salts were drawn,
-- and whether the next call of the keeper fails
pub record Common : Type 0 where
  pub log : Log
  pub clock : ℕ
  pub drawn : ℕ
  pub fails : Bool

abbrev pub with_entry : Common → Entry → Common
with_entry c entry = record c { log = noted c.log entry }

abbrev pub with_draw : Common → Common
with_draw c = record c { drawn = c.drawn + 1 }

-- the next call of the keeper fails
abbrev pub with_failure : Common → Common
with_failure c = record c { fails = true }

-- the number of the next entry
abbrev pub next_number : Common → ℕ
next_number c = length c.log.entries + 1

-- the look that is answered now
abbrev pub seen : Common → Who → Look
seen c who = look_of (history c.log) who

-- the reply that is answered now
abbrev pub replied : Common → (user : List ℕ) → List Evidence → (flags : ℕ) → Reply
replied c user evidences flags = attempt_reply (history c.log) user evidences flags c.clock

abbrev pub attempted : Common → (user : List ℕ) → List Evidence → (flags : ℕ) → Entry
attempted c user evidences flags = Attempted (record {
  user = user;
  evidences = evidences;
  flags = flags;
  reading = c.clock;
  reply = replied c user evidences flags;
})

-- the user's credentials have changed since the look
abbrev pub is_stale : Common → Look → Bool
is_stale c look = nat_lt look.stamp (stamp (history c.log) look.user)

-- what the code counts: the entries of the history, the attempts among them that opened, the other attempts, and the keeper's
-- faults that the history tells
pub record AreCounted (entries opened refused faults : ℕ) (log : Log) (kept : ℕ) : Type 0 where
  pub entries_are : entries ≡ length log.entries
  pub opened_are : opened ≡ opened_in log
  pub refused_are : refused ≡ refused_in log
  pub faults_are : faults ≡ last_count (history log)
  pub keeper_has : faults ≤ kept
