-- The server's greeting and the client's response: "Protocol::HandshakeV10" and
-- "Protocol::HandshakeResponse41" of the MySQL client/server protocol documentation.
use Rattle.std.specs.Prelude.{◌≡◌, ℕ, ◌<◌, ◌+◌, ◌-◌, ◌*◌, ◌/◌, ◌%◌, max, Bool, true, false, List, [], ◌∷◌, ◌++◌, length, take, drop, replicate, ◌==◌, Contains, Option, Some, None, is_some, IfSome}
use Rattle.std.specs.Bool.{OnFalse}
use Rattle.lg_base.specs.Fields.{little_text, lenenc_text}
use Rattle.wire_form.specs.Fields.{Field, number, mark, bytes, skipped, lenenc, name, follow, ◌▸◌, counted, chosen, optional}
use Rattle.wire_form.specs.Forms.{Form, rest, nothing, lead, ◌▹◌, whole, last_name}
use Rattle.auth_packets.specs.Flags.{HasNeeded, is_set, CONNECT_WITH_DB, CONNECT_ATTRS, LENENC_CLIENT_DATA, flags, lower_flags, upper_flags}
use Rattle.auth_packets.specs.declared.handshake.Greeting.{Greeting}
use Rattle.auth_packets.specs.declared.handshake.Response.{Response}

-- ## The greeting

-- what the greeting begins with: 0a, the version, the id of the connection, the first eight bytes of the
-- nonce, and a byte that isn't examined
abbrev pub Opening : Type 0
Opening = Unit {0} × (List ℕ × (ℕ × (List ℕ × Unit {0})))

unfoldable pub opening : Field Opening
opening = mark 0x0a ▸ name ▸ number 4 ▸ bytes 8 ▸ skipped 1 (0 ∷ [])

-- the lower flags, character set, status, and the upper flags
abbrev pub Session : Type 0
Session = ℕ × (ℕ × (ℕ × ℕ))

unfoldable pub session : Field Session
session = lower_flags ▸ number 1 ▸ number 2 ▸ upper_flags

-- what stands behind the other twelve bytes of the nonce: 00 where the stated length is 21, and else
-- whatever fills max(13, length - 8) bytes
abbrev pub nonce_end : ℕ → Field (Unit {0})
nonce_end length = chosen (length == 21) (mark 0) (skipped (max 13 (length - 8) - 12) [])

-- the length of the nonce, ten bytes that aren't examined, and the rest of the nonce
abbrev pub Nonce : Type 0
Nonce = (ℕ × Unit {0}) × (List ℕ × Unit {0})

unfoldable pub nonce : Field Nonce
nonce = follow (number 1 ▸ skipped 10 (replicate 10 0)) (λ v. bytes 12 ▸ nonce_end v.0)

-- the plugin's name stands last, and its 00 may be missing
abbrev pub GreetingParts : Type 0
GreetingParts = Opening × (Session × (Nonce × (List ℕ × Unit {0})))

abbrev pub greeting_of : GreetingParts → Greeting
greeting_of p = record {
  version = p.0.1.0;
  id = p.0.1.1.0;
  nonce = p.0.1.1.1.0 ++ p.1.1.0.1.0;
  flags = p.1.0.0 + 65536 * p.1.0.1.1.1;
  charset = p.1.0.1.0;
  status = p.1.0.1.1.0;
  plugin = p.1.1.1.0;
}

abbrev pub greeting_parts : Greeting → GreetingParts
greeting_parts g = (
  (tt, (g.version, (g.id, (take 8 g.nonce, tt)))),
  (
    (g.flags % 65536, (g.charset, (g.status, g.flags / 65536))),
    (
      ((21, tt), (drop 8 g.nonce, tt)),
      (g.plugin, tt),
    ),
  ),
)

unfoldable pub greeting : Form Greeting
greeting = whole greeting_of greeting_parts (opening ▹ session ▹ nonce ▹ last_name nothing tt)

-- ## The greeting as it is written

-- a greeting that can be written
abbrev pub IsWholeGreeting : Greeting → Type 0
IsWholeGreeting g = (¬ Contains g.version 0) × HasNeeded g.flags × (¬ Contains g.plugin 0)

-- how a greeting is written
unfoldable pub opening_text : Greeting → List ℕ
opening_text g = 0x0a ∷ [] ++ (g.version ++ 0 ∷ []) ++ little_text 4 g.id ++ take 8 g.nonce ++ 0 ∷ []

unfoldable pub session_text : Greeting → List ℕ
session_text g =
    little_text 2 (g.flags % 65536) ++ g.charset ∷ [] ++ little_text 2 g.status ++ little_text 2 (g.flags / 65536)

unfoldable pub nonce_text : Greeting → List ℕ
nonce_text g = 21 ∷ [] ++ replicate 10 0 ++ drop 8 g.nonce ++ 0 ∷ []

unfoldable pub greeting_text : Greeting → List ℕ
greeting_text g = opening_text g ++ session_text g ++ nonce_text g ++ (g.plugin ++ 0 ∷ [])

-- ## The response

-- flags, the longest packet, character set, 23 bytes that aren't examined, and the user
abbrev pub Client : Type 0
Client = ℕ × (ℕ × (ℕ × (Unit {0} × List ℕ)))

unfoldable pub client : Field Client
client = flags ▸ number 4 ▸ number 1 ▸ skipped 23 (replicate 23 0) ▸ name

-- the answer, behind a length whose form the flags tell
unfoldable pub answer : ℕ → Field (List ℕ)
answer flags = counted (chosen (is_set LENENC_CLIENT_DATA flags) lenenc (number 1))

-- a name, where the flags tell of one
unfoldable pub database : ℕ → Field (Option (List ℕ))
database flags = optional (is_set CONNECT_WITH_DB flags) name

-- the answer, the database and the plugin's name
unfoldable pub claim : ℕ → Field (List ℕ × (Option (List ℕ) × List ℕ))
claim flags = answer flags ▸ database flags ▸ name

-- the connection's attributes, where the flags tell of them
unfoldable pub attributes : ℕ → Field (Option (List ℕ))
attributes flags = optional (is_set CONNECT_ATTRS flags) (counted lenenc)

abbrev pub ResponseParts : Type 0
ResponseParts = Client × ((List ℕ × (Option (List ℕ) × List ℕ)) × (Option (List ℕ) × List ℕ))

abbrev pub response_of : ResponseParts → Response
response_of p = record {
  flags = p.0.0;
  max_packet = p.0.1.0;
  charset = p.0.1.1.0;
  user = p.0.1.1.1.1;
  auth = p.1.0.0;
  database = p.1.0.1.0;
  plugin = p.1.0.1.1;
  attributes = p.1.1.0;
  rest = p.1.1.1;
}

abbrev pub response_parts : Response → ResponseParts
response_parts r = (
  (r.flags, (r.max_packet, (r.charset, (tt, r.user)))),
  (
    (r.auth, (r.database, r.plugin)),
    (r.attributes, r.rest),
  ),
)

unfoldable pub response : Form Response
response = whole response_of response_parts (lead client (λ c. claim c.0 ▹ attributes c.0 ▹ rest))

-- ## The response as it is written

-- A response that can be written. A text in it holds no 00, the optional fields are there exactly where the
-- flags tell of them, and a length in one byte is below 256.
pub record IsWholeResponse (r : Response) : Type 0 where
  pub flags : HasNeeded r.flags
  pub user : ¬ Contains r.user 0
  pub auth : OnFalse (is_set LENENC_CLIENT_DATA r.flags) (length r.auth < 256)
  pub database : is_some r.database ≡ is_set CONNECT_WITH_DB r.flags
  pub database_text : IfSome r.database (λ text. ¬ Contains text 0)
  pub plugin : ¬ Contains r.plugin 0
  pub attributes : is_some r.attributes ≡ is_set CONNECT_ATTRS r.flags

unfoldable pub client_text : Response → List ℕ
client_text r =
    little_text 4 r.flags ++ little_text 4 r.max_packet ++ r.charset ∷ [] ++ replicate 23 0 ++ (r.user ++ 0 ∷ [])

abbrev pub length_text : Bool → ℕ → List ℕ
length_text true n = lenenc_text n
length_text false n = n ∷ []

unfoldable pub answer_text : ℕ → List ℕ → List ℕ
answer_text flags auth = length_text (is_set LENENC_CLIENT_DATA flags) (length auth) ++ auth

unfoldable pub database_text : Option (List ℕ) → List ℕ
database_text None = []
database_text (Some text) = text ++ 0 ∷ []

unfoldable pub attributes_text : Option (List ℕ) → List ℕ
attributes_text None = []
attributes_text (Some bytes) = lenenc_text (length bytes) ++ bytes

unfoldable pub response_text : Response → List ℕ
response_text r = client_text r ++ answer_text r.flags r.auth ++ database_text r.database ++ (r.plugin ++ 0 ∷ [])
    ++ attributes_text r.attributes ++ r.rest
