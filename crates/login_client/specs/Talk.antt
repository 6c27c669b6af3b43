-- A talk with a server: what the client says and hears, one after the other. There is no phase and no counter in
-- it, only what comes next.
use Rattle.std.specs.Prelude.{◌≡◌, ℕ, List, [], ◌∷◌, Option, Some, None}
use Rattle.login_client.specs.Hearing.{IsHeard}
use Rattle.login_client.specs.declared.hearing.Heard.{Heard}
use Rattle.login_client.specs.declared.ends.LoginEnd.{LoginEnd}

-- hears a payload, and goes on by what it says; says a payload, and then hears one; or is over
pub data Talk : Type 0 where
  Hears : (Heard → Talk) → Talk
  Says : List ℕ → (Heard → Talk) → Talk
  Over : LoginEnd → Talk

-- a talk comes to another one by hearing these payloads and saying those. What follows its end isn't heard.
abbrev pub Leads : Talk → (got written : List (List ℕ)) → Talk → Type 0
Leads (Hears k) [] written now = (written ≡ []) × (now ≡ Hears k)
Leads (Hears k) (payload ∷ got) written now = (heard : Heard) × IsHeard payload heard × Leads (k heard) got written now
Leads (Says said k) [] written now = (written ≡ said ∷ []) × (now ≡ Hears k)
Leads (Says said k) (payload ∷ got) written now =
    (rest : List (List ℕ)) × (written ≡ said ∷ rest) × (heard : Heard) × IsHeard payload heard × Leads (k heard) got rest now
Leads (Over end) got written now = (written ≡ []) × (now ≡ Over end)

abbrev pub result_of : Talk → Option LoginEnd
result_of (Hears k) = None
result_of (Says said k) = None
result_of (Over end) = Some end

abbrev pub IsWaiting : Talk → Type 0
IsWaiting (Hears k) = Unit {0}
IsWaiting (Says said k) = ⊥
IsWaiting (Over end) = ⊥

-- what a talk that hears goes on with
abbrev pub hearing : Talk → Heard → Talk
hearing (Hears k) = k
hearing (Says said k) = k
hearing (Over end) = λ _. Over end
