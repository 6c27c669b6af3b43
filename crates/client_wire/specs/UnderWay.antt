-- A client, and the bytes that are under way between it and its server.
use Rattle.std.specs.Prelude.{ℕ, ◌==◌, true, if◌then◌else◌, List, [], ◌++◌, Option, Some, None}
use Rattle.login_client.specs.Conversation.{conversation}
use Rattle.login_client.specs.Talk.{result_of}
use Rattle.login_client.specs.declared.claims.Claim.{Claim}
use Rattle.login_client.specs.declared.claims.Secrets.{Secrets}
use Rattle.login_client.specs.declared.ends.LoginEnd.{LoginEnd}
use Rattle.client_wire.specs.Ends.{Standing, got_by, stands_at, with_bytes}
use Rattle.client_wire.specs.Getting.{Got}

-- a client: where it stands, the bytes that are under way to it and from it, and its result, once that was told
pub record Client : Type 0 where
  pub stands : Standing
  pub coming : List ℕ
  pub leaving : List ℕ
  pub result : Option LoginEnd

-- a client on the server's machine, which may say its secrets in the clear
abbrev pub claim_of : (flags : ℕ) → (user : List ℕ) → Secrets → Claim
claim_of flags user secrets = record { user = user; secrets = secrets; options = record { flags = flags; clear = true }; local = true }

abbrev pub new_client : Claim → (coming : List ℕ) → Client
new_client claim coming = record {
  stands = record { next = 0; at = conversation claim; unread = record { place = 0; bytes = [] } };
  coming = coming;
  leaving = [];
  result = None;
}

-- bytes that are under way to it
abbrev pub sent_to : List ℕ → Client → Client
sent_to bytes client = record client { coming = client.coming ++ bytes }

-- what comes of the bytes that a client gets
abbrev pub getting_by : Client → (bytes : List ℕ) → Got
getting_by client bytes = got_by (with_bytes client.stands bytes)

abbrev pub with_got : Client → (rest : List ℕ) → Got → Client
with_got client rest g = record {
  stands = stands_at g;
  coming = rest;
  leaving = client.leaving ++ g.sent;
  result = result_of g.at;
}

-- the client that has got bytes, while others are still under way to it. One that is done drops them.
abbrev pub client_after : Option LoginEnd → Client → (bytes rest : List ℕ) → Client
client_after None client bytes rest = with_got client rest (getting_by client bytes)
client_after (Some how) client bytes rest = record client { coming = rest }

-- its result, if it has just come to it
abbrev pub result_by : Option LoginEnd → Client → (bytes : List ℕ) → Option LoginEnd
result_by None client bytes = result_of (getting_by client bytes).at
result_by (Some how) client bytes = None

-- clients by the numbers of their sessions: one more, or one that goes on
abbrev pub with_client : (ℕ → Option Client) → ℕ → Client → ℕ → Option Client
with_client clients number client other = if other == number then Some client else clients other
