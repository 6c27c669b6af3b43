-- Which evidence fits which credential.
--
-- MySQL client/server protocol, Connection Phase, "Authentication Methods"; MySQL 8.0 Reference Manual,
-- "Password Management" (dual passwords) and "Multifactor Authentication".
use Rattle.std.specs.Prelude.{◌≡◌, ◌==◌, ◌&&◌, ◌*◌, ◌+◌, ◌≤◌, nat_le, not, Bool, true, false, if◌then◌else◌, ℕ, List, [], ◌∷◌, length, Option, Some, None, slice_get, zero, suc, ◌||◌}
use Rattle.std.specs.List.{list_all, enumerate_from}
use Rattle.std.specs.Str.{bytes_eq}
use Rattle.native_scramble.specs.Native.{native_right, native_stage2}
use Rattle.sha256_crypt.specs.Crypt.{crypt_of}
use Rattle.caching_sha2.specs.Fast.{fast_right}
use Rattle.caching_sha2.specs.declared.stored.Sha2Stored.{Sha2Stored}
use Rattle.factor_chain.specs.declared.credentials.Stored.{Stored}
use Rattle.factor_chain.specs.declared.credentials.Stored.TheVariants as stored
use Rattle.factor_chain.specs.declared.credentials.Credential.{Credential}
use Rattle.factor_chain.specs.declared.credentials.InForce.{InForce}
use Rattle.factor_chain.specs.declared.credentials.Look.{Look}
use Rattle.factor_chain.specs.declared.evidence_list.Evidence.{Evidence}
use Rattle.factor_chain.specs.declared.evidence_list.Evidence.TheVariants as evidence
use Rattle.factor_chain.specs.declared.evidence_list.Fit.{Fit}
use Rattle.factor_chain.specs.declared.evidence_list.Fit.TheVariants as fit

-- a salted sum is of a password, in the rounds that it names
abbrev pub sum_is_of : Sha2Stored → List ℕ → Bool
sum_is_of value password =
    nat_le 1 value.thousands && nat_le value.thousands 4095
    && bytes_eq (crypt_of password value.salt (1000 * value.thousands)) value.sum

-- a password fits what is stored: the empty one fits `Empty` alone, and none is longer than 256 bytes
abbrev pub password_fits : Stored → List ℕ → Bool
password_fits stored.Empty password = length password == 0
password_fits (stored.Native digest) password =
    nat_le 1 (length password) && nat_le (length password) 256 && bytes_eq (native_stage2 password) digest
password_fits (stored.Sha2 value) password =
    nat_le 1 (length password) && nat_le (length password) 256 && sum_is_of value password

-- an answer of the native method is right for what is stored
abbrev pub answer_fits : Stored → List ℕ → List ℕ → Bool
answer_fits stored.Empty nonce response = false
answer_fits (stored.Native digest) nonce response = (length response == 20) && native_right digest nonce response
answer_fits (stored.Sha2 _) nonce response = false

-- a clear password is right for a salted sum
abbrev pub full_fits : Stored → List ℕ → Bool
full_fits stored.Empty password = false
full_fits (stored.Native _) password = false
full_fits (stored.Sha2 value) password = password_fits (stored.Sha2 value) password

-- an answer of the fast path is right for a digest that is known
abbrev pub digest_fits : Option (List ℕ) → List ℕ → List ℕ → Bool
digest_fits None nonce response = false
digest_fits (Some digest) nonce response = fast_right digest nonce response

abbrev pub is_empty : Stored → Bool
is_empty stored.Empty = true
is_empty (stored.Native _) = false
is_empty (stored.Sha2 _) = false

-- evidence of a first factor fits a credential
abbrev pub fits : Evidence → Credential → Bool
fits (evidence.Native nonce response) credential = answer_fits credential.stored nonce response
fits (evidence.Fast nonce response) credential = digest_fits credential.digest nonce response
fits (evidence.Full password) credential = full_fits credential.stored password
fits evidence.Empty credential = is_empty credential.stored
fits (evidence.External _ _) credential = false

abbrev pub secondary_fit : Evidence → Option Credential → Fit
secondary_fit given None = fit.Nothing
secondary_fit given (Some credential) = if fits given credential then fit.Secondary else fit.Nothing

-- the first factor: the primary is tried, then the secondary
abbrev pub first_fit : Evidence → Credential → Option Credential → Fit
first_fit given primary secondary =
    if fits given primary then fit.Primary else secondary_fit given secondary

-- a further factor: what its verifier accepted, under the label of its place
abbrev pub label_fit : Evidence → Option (List ℕ) → Fit
label_fit given None = fit.Nothing
label_fit (evidence.External label accepted) (Some wanted) =
    if accepted && bytes_eq label wanted then fit.Factor else fit.Nothing
label_fit (evidence.Native _ _) (Some wanted) = fit.Nothing
label_fit (evidence.Fast _ _) (Some wanted) = fit.Nothing
label_fit (evidence.Full _) (Some wanted) = fit.Nothing
label_fit evidence.Empty (Some wanted) = fit.Nothing

-- the evidence at a place, counted from 0, on the passwords and labels of an account
abbrev pub fit_on : Credential → Option Credential → List (List ℕ) → Evidence → ℕ → Fit
fit_on primary secondary labels given zero = first_fit given primary secondary
fit_on primary secondary labels given (suc place) = label_fit given (slice_get labels place)

abbrev pub is_fit : Fit → Bool
is_fit fit.Nothing = false
is_fit fit.Primary = true
is_fit fit.Secondary = true
is_fit fit.Factor = true

-- each piece of evidence fits at its place
abbrev pub all_fit_on : Credential → Option Credential → List (List ℕ) → List Evidence → Bool
all_fit_on primary secondary labels evidences =
    list_all (λ placed. is_fit (fit_on primary secondary labels placed.1 placed.0)) (enumerate_from 0 evidences)

-- an attempt verifies: each factor has its evidence, and each fits
abbrev pub verifies_on : Credential → Option Credential → List (List ℕ) → List Evidence → Bool
verifies_on primary secondary labels evidences =
    (length evidences == length labels + 1) && all_fit_on primary secondary labels evidences

-- the same on a look: where no account is in force, nothing fits
abbrev pub fit_of : Option InForce → Option Evidence → ℕ → Fit
fit_of None given place = fit.Nothing
fit_of (Some account) None place = fit.Nothing
fit_of (Some account) (Some given) place = fit_on account.primary account.secondary account.labels given place

abbrev pub fit_at : Look → List Evidence → ℕ → Fit
fit_at look evidences place = fit_of look.in_force (slice_get evidences place) place

abbrev pub all_fit_of : Option InForce → List Evidence → Bool
all_fit_of None evidences = false
all_fit_of (Some account) evidences = all_fit_on account.primary account.secondary account.labels evidences

abbrev pub all_fit : Look → List Evidence → Bool
all_fit look evidences = all_fit_of look.in_force evidences

abbrev pub secondary_digest_fits : Option Credential → List ℕ → List ℕ → Bool
secondary_digest_fits None nonce response = false
secondary_digest_fits (Some credential) nonce response = digest_fits credential.digest nonce response

-- whether a response is right for a digest that the look shows
abbrev pub known_fits_of : Option InForce → List ℕ → List ℕ → Bool
known_fits_of None nonce response = false
known_fits_of (Some account) nonce response =
    (length response == 32) && (digest_fits account.primary.digest nonce response || secondary_digest_fits account.secondary nonce response)
