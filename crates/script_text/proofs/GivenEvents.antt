-- What can happen by a line.
use Rattle.std.proofs.Common.{◌≡◌, ◌≢◌, ℕ, Bool, true, false, cond, List, [], ◌∷◌, Option, Some, None, refl, eqb}
use Rattle.std.specs.Prelude.{IfSome, codes}
use Rattle.std.specs.Str.{bytes_eq}
use Rattle.std.specs.Option.{option_map}
use Rattle.std.proofs.lemmas.Bool.Decides.{Decides-eqb, not_from_Decides}
use Rattle.login_client.specs.declared.claims.Secrets.{Secrets}
use Rattle.script_text.specs.ClientLines.{flags_word, is_client, secrets_of}
use Rattle.script_text.specs.EventLines.{IsEvent, both, bytes_of, client_if, client_of, count_of, event_by, fault_of, reading_of, session_of, text_of}
use Rattle.script_text.specs.Words.{all_text, from_one, hex_word, number_word, one_to_three, pair, session_word, single, with_text}
use Rattle.script_text.specs.declared.event.Event.{Event}
use Rattle.script_text.specs.declared.event.Event.TheVariants as event
use Rattle.script_text.specs.declared.event_line.EventWord.{EventWord}
use Rattle.script_text.specs.declared.event_line.EventWord.TheVariants as kind
use Rattle.script_text.proofs.Clients.{client}

-- a number from 1 on isn't 0
above-none : (number : Option ℕ) → IfSome (from_one number) (λ n. n ≢ 0)
above-none None = tt
above-none (Some n) =
    let by : (b : Bool) → eqb n 0 ≡ b → IfSome (cond b None (Some n)) (λ n. n ≢ 0) =
    λ b. elim b as (λ b. eqb n 0 ≡ b → IfSome (cond b None (Some n)) (λ n. n ≢ 0))
    [ true ↦ λ e. tt | false ↦ λ e. not_from_Decides (eqb n 0) (Decides-eqb n 0) e ] in
    by (eqb n 0) refl

numbered : (word : List ℕ) → IfSome (session_word word) (λ n. n ≢ 0)
numbered word = above-none (number_word 4294967295 word)

-- an event of a session alone
alone-if : (made : ℕ → Event) → ((n : ℕ) → n ≢ 0 → IsEvent (made n)) → (session : Option ℕ) → IfSome session (λ n. n ≢ 0) → IfSome (option_map made session) IsEvent
alone-if made is None h = tt
alone-if made is (Some n) h = is n h

alone : (made : ℕ → Event) → ((n : ℕ) → n ≢ 0 → IsEvent (made n)) → (word : Option (List ℕ)) → IfSome (option_map made (session_of word)) IsEvent
alone made is None = tt
alone made is (Some word) = alone-if made is (session_word word) (numbered word)

-- an event of a session with a value
with-if : {X : Type 0} (made : ℕ → X → Event) → ((n : ℕ) (x : X) → n ≢ 0 → IsEvent (made n x)) → (session : Option ℕ) (value : Option X) → IfSome session (λ n. n ≢ 0)
    → IfSome (option_map (λ s. made s.0 s.1) (both session value)) IsEvent
with-if made is None value h = tt
with-if made is (Some n) None h = tt
with-if made is (Some n) (Some x) h = is n x h

with-bytes : (made : ℕ → List ℕ → Event) → ((n : ℕ) (x : List ℕ) → n ≢ 0 → IsEvent (made n x)) → (words : Option (List ℕ × List ℕ))
    → IfSome (option_map (λ s. made s.0 s.1) (bytes_of words)) IsEvent
with-bytes made is None = tt
with-bytes made is (Some (session, bytes)) = with-if made is (session_word session) (hex_word bytes) (numbered session)

with-count : (made : ℕ → ℕ → Event) → ((n x : ℕ) → n ≢ 0 → IsEvent (made n x)) → (words : Option (List ℕ × List ℕ))
    → IfSome (option_map (λ s. made s.0 s.1) (count_of words)) IsEvent
with-count made is None = tt
with-count made is (Some (session, count)) = with-if made is (session_word session) (number_word 18446744073709551615 count) (numbered session)

with-words : (made : ℕ → List ℕ → Event) → ((n : ℕ) (x : List ℕ) → n ≢ 0 → IsEvent (made n x)) → (words : Option (List ℕ × List ℕ))
    → IfSome (option_map (λ s. made s.0 s.1) (text_of words)) IsEvent
with-words made is None = tt
with-words made is (Some (session, text)) = with-if made is (session_word session) (Some text) (numbered session)

read-clock : (word : Option (List ℕ)) → IfSome (option_map event.Clock (reading_of word)) IsEvent
read-clock None = tt
read-clock (Some word) =
    elim (number_word 18446744073709551615 word) as (λ number. IfSome (option_map event.Clock number) IsEvent) [ None ↦ tt | Some n ↦ tt ]

read-admin : (text : Option (List ℕ)) → IfSome (option_map event.Admin text) IsEvent
read-admin None = tt
read-admin (Some text) = tt

read-fault : (word : Option (List ℕ)) → IfSome (fault_of word) IsEvent
unfolding fault_of
read-fault None = tt
read-fault (Some word) =
    elim (bytes_eq word (codes "keeper")) as (λ b. IfSome (cond b (Some event.FailKeeper) None) IsEvent) [ true ↦ tt | false ↦ tt ]

client-whole : (n flags : ℕ) (user : List ℕ) (secrets : Secrets) → n ≢ 0
    → IfSome (cond (is_client flags user secrets) (Some (event.Client n flags user secrets)) None) IsEvent
client-whole n flags user secrets h =
    let by : (b : Bool) → is_client flags user secrets ≡ b → IfSome (cond b (Some (event.Client n flags user secrets)) None) IsEvent =
    λ b. elim b as (λ b. is_client flags user secrets ≡ b → IfSome (cond b (Some (event.Client n flags user secrets)) None) IsEvent)
    [ true ↦ λ e. (h, client flags user secrets e) | false ↦ λ e. tt ] in
    by (is_client flags user secrets) refl

client-if : (session flags : Option ℕ) (user : Option (List ℕ)) (secrets : Option Secrets) → IfSome session (λ n. n ≢ 0)
    → IfSome (client_if session flags user secrets) IsEvent
client-if None flags user secrets h = tt
client-if (Some n) None user secrets h = tt
client-if (Some n) (Some flags) None secrets h = tt
client-if (Some n) (Some flags) (Some user) None h = tt
client-if (Some n) (Some flags) (Some user) (Some secrets) h = client-whole n flags user secrets h

read-client : (words : List (List ℕ)) → IfSome (client_of words) IsEvent
read-client [] = tt
read-client (session ∷ []) = tt
read-client (session ∷ flags ∷ []) = tt
read-client (session ∷ flags ∷ user ∷ secrets) =
    client-if (session_word session) (flags_word flags) (hex_word user) (secrets_of (one_to_three secrets)) (numbered session)

-- what a line can give
pub happens : (word : EventWord) (arguments : List (List ℕ)) → IfSome (event_by word arguments) IsEvent
happens kind.Clock arguments = read-clock (single arguments)
happens kind.Admin arguments = read-admin (all_text arguments)
happens kind.Open arguments = alone event.Open (λ n h. h) (single arguments)
happens kind.Client arguments = read-client arguments
happens kind.Bytes arguments = with-bytes event.FromPeer (λ n x h. h) (pair arguments)
happens kind.Up arguments = with-count event.Up (λ n x h. h) (pair arguments)
happens kind.Down arguments = with-count event.Down (λ n x h. h) (pair arguments)
happens kind.Step arguments = alone event.Step (λ n h. h) (single arguments)
happens kind.Run arguments = alone event.Run (λ n h. h) (single arguments)
happens kind.Say arguments = with-words event.Say (λ n x h. h) (with_text arguments)
happens kind.Command arguments = with-bytes event.Command (λ n x h. h) (pair arguments)
happens kind.Close arguments = alone event.Close (λ n h. h) (single arguments)
happens kind.Cut arguments = alone event.Cut (λ n h. h) (single arguments)
happens kind.Fail arguments = read-fault (single arguments)
