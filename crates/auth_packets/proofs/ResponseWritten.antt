-- What is written of a response is a spelling of it.
use Rattle.std.proofs.Common.{◌≡◌, ℕ, ◌<◌, ◌^◌, Bool, true, false, List, [], ◌∷◌, ◌++◌, length, Contains, Option, Some, None, is_some, IfSome, unwrap_or, refl, sym, ap, ◌∙◌, subst, append_assoc, mod-eq_of_lt, true≢false, arith}
use Rattle.std.specs.Bool.{OnFalse}
use Rattle.wire_form.specs.Fields.{number, lenenc, name, counted, chosen, optional}
use Rattle.auth_packets.specs.Flags.{flags, is_set, CONNECT_WITH_DB, CONNECT_ATTRS, LENENC_CLIENT_DATA}
use Rattle.auth_packets.specs.Handshake.{client, client_text, answer, answer_text, length_text, database, database_text, claim, attributes, attributes_text, response, response_text, IsWholeResponse}
use Rattle.auth_packets.proofs.HandshakeLaws.{response-lawful}
use Rattle.auth_packets.specs.declared.handshake.Response.{Response}

-- ## The answer

length_fits : (b : Bool) (n : ℕ) → n < 2 ^ 64 → OnFalse b (n < 256) → (chosen b lenenc (number 1)).Fits n
length_fits true n wide small = wide
length_fits false n wide small = small

length_written : (b : Bool) (n : ℕ) → OnFalse b (n < 256) → (chosen b lenenc (number 1)).write n ≡ length_text b n
length_written true n small = refl
length_written false n small = ap (λ (x : ℕ). x ∷ []) (mod-eq_of_lt small)

answer_fits : (n : ℕ) (auth : List ℕ) → length auth < 2 ^ 64 → OnFalse (is_set LENENC_CLIENT_DATA n) (length auth < 256) → (answer n).Fits auth
unfolding answer
answer_fits n auth wide small = ((length_fits (is_set LENENC_CLIENT_DATA n) (length auth) wide small, refl), refl)

answer_written : (n : ℕ) (auth : List ℕ) → OnFalse (is_set LENENC_CLIENT_DATA n) (length auth < 256) → (answer n).write auth ≡ answer_text n auth
unfolding answer answer_text
answer_written n auth small = ap (λ (x : List ℕ). x ++ auth) (length_written (is_set LENENC_CLIENT_DATA n) (length auth) small)

-- ## What the flags tell of

named_fits : (b : Bool) (o : Option (List ℕ)) → is_some o ≡ b → IfSome o (λ text. ¬ Contains text 0) → (optional b name).Fits o
named_fits true (Some text) there no_zero = no_zero
named_fits true None there no_zero = absurd (true≢false (sym there))
named_fits false (Some text) there no_zero = absurd (true≢false there)
named_fits false None there no_zero = refl

named_written : (b : Bool) (o : Option (List ℕ)) → is_some o ≡ b → (optional b name).write o ≡ database_text o
unfolding database_text
named_written true (Some text) there = refl
named_written true None there = absurd (true≢false (sym there))
named_written false (Some text) there = absurd (true≢false there)
named_written false None there = refl

counted_fits : (b : Bool) (o : Option (List ℕ)) → is_some o ≡ b → length (unwrap_or o []) < 2 ^ 64 → (optional b (counted lenenc)).Fits o
counted_fits true (Some bytes) there wide = ((wide, refl), refl)
counted_fits true None there wide = absurd (true≢false (sym there))
counted_fits false (Some bytes) there wide = absurd (true≢false there)
counted_fits false None there wide = refl

counted_written : (b : Bool) (o : Option (List ℕ)) → is_some o ≡ b → (optional b (counted lenenc)).write o ≡ attributes_text o
unfolding attributes_text
counted_written true (Some bytes) there = refl
counted_written true None there = absurd (true≢false (sym there))
counted_written false (Some bytes) there = absurd (true≢false there)
counted_written false None there = refl

database_fits : (n : ℕ) (o : Option (List ℕ)) → is_some o ≡ is_set CONNECT_WITH_DB n → IfSome o (λ text. ¬ Contains text 0) → (database n).Fits o
unfolding database
database_fits n o = named_fits (is_set CONNECT_WITH_DB n) o

database_written : (n : ℕ) (o : Option (List ℕ)) → is_some o ≡ is_set CONNECT_WITH_DB n → (database n).write o ≡ database_text o
unfolding database
database_written n o = named_written (is_set CONNECT_WITH_DB n) o

attributes_fits : (n : ℕ) (o : Option (List ℕ)) → is_some o ≡ is_set CONNECT_ATTRS n → length (unwrap_or o []) < 2 ^ 64 → (attributes n).Fits o
unfolding attributes
attributes_fits n o = counted_fits (is_set CONNECT_ATTRS n) o

attributes_written : (n : ℕ) (o : Option (List ℕ)) → is_some o ≡ is_set CONNECT_ATTRS n → (attributes n).write o ≡ attributes_text o
unfolding attributes
attributes_written n o = counted_written (is_set CONNECT_ATTRS n) o

-- ## The whole

client_fits : (r : Response) → r.flags < 2 ^ 32 → r.max_packet < 2 ^ 32 → r.charset < 2 ^ 8 → IsWholeResponse r →
    client.Fits (r.flags, (r.max_packet, (r.charset, (tt, r.user))))
unfolding client flags
client_fits r wide max_packet charset is_whole =
    (((refl, (is_whole.flags.0, (is_whole.flags.1, refl))), omega arith), (max_packet, (charset, ((refl, refl), is_whole.user))))

joined : (a b c d e : List ℕ) → a ++ (b ++ (c ++ (d ++ e))) ≡ a ++ b ++ c ++ d ++ e
joined a b c d e = simp append_assoc

client_written : (r : Response) → r.charset < 2 ^ 8 → client.write (r.flags, (r.max_packet, (r.charset, (tt, r.user)))) ≡ client_text r
unfolding client client_text flags
client_written r charset = rw (mod-eq_of_lt charset)

claim_text : Response → List ℕ
claim_text r = answer_text r.flags r.auth ++ (database_text r.database ++ (r.plugin ++ 0 ∷ []))

claim_written : (r : Response) → IsWholeResponse r → (claim r.flags).write (r.auth, (r.database, r.plugin)) ≡ claim_text r
unfolding claim claim_text
claim_written r is_whole =
    ap (λ (x : List ℕ). x ++ ((database r.flags).write r.database ++ (r.plugin ++ 0 ∷ []))) (answer_written r.flags r.auth is_whole.auth)
    ∙ ap (λ (x : List ℕ). answer_text r.flags r.auth ++ (x ++ (r.plugin ++ 0 ∷ []))) (database_written r.flags r.database is_whole.database)

claim_fits : (r : Response) → length r.auth < 2 ^ 64 → IsWholeResponse r → (claim r.flags).Fits (r.auth, (r.database, r.plugin))
unfolding claim
claim_fits r wide is_whole =
    (answer_fits r.flags r.auth wide is_whole.auth, (database_fits r.flags r.database is_whole.database is_whole.database_text, is_whole.plugin))

regrouped : (a b c d e f : List ℕ) → a ++ ((b ++ (c ++ d)) ++ (e ++ f)) ≡ a ++ b ++ c ++ d ++ e ++ f
regrouped a b c d e f = simp append_assoc

pub response_spelled : (r : Response) → r.flags < 2 ^ 32 → r.max_packet < 2 ^ 32 → r.charset < 2 ^ 8 → length r.auth < 2 ^ 64 →
    length (unwrap_or r.attributes []) < 2 ^ 64 → IsWholeResponse r → response.Spells r (response_text r)
unfolding response response_text claim_text
response_spelled r wide max_packet charset auth attributes_wide is_whole =
    subst (λ (text : List ℕ). response.Spells r text) written
    (response-lawful.written r
    ((client_fits r wide max_packet charset is_whole, (claim_fits r auth is_whole, (attributes_fits r.flags r.attributes is_whole.attributes attributes_wide, tt))), refl))
  where
    written : response.write r ≡ response_text r
    written =
        ap (λ (x : List ℕ). x ++ ((claim r.flags).write (r.auth, (r.database, r.plugin)) ++ ((attributes r.flags).write r.attributes ++ r.rest))) (client_written r charset)
        ∙ ap (λ (x : List ℕ). client_text r ++ (x ++ ((attributes r.flags).write r.attributes ++ r.rest))) (claim_written r is_whole)
        ∙ ap (λ (x : List ℕ). client_text r ++ (claim_text r ++ (x ++ r.rest))) (attributes_written r.flags r.attributes is_whole.attributes)
        ∙ regrouped (client_text r) (answer_text r.flags r.auth) (database_text r.database) (r.plugin ++ 0 ∷ []) (attributes_text r.attributes) r.rest
