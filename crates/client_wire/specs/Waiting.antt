-- A client that waits for a packet.
use Rattle.std.specs.Prelude.{Bool, true, false, Option, Some, None}
use Rattle.login_client.specs.Talk.{Talk, Hears, Says, Over}
use Rattle.login_client.specs.declared.ends.LoginEnd.{LoginEnd}

abbrev pub is_waiting : Talk → Bool
is_waiting (Hears k) = true
is_waiting (Says said k) = false
is_waiting (Over how) = false

-- a client whose result wasn't told waits
abbrev pub waits_by : Option LoginEnd → Talk → Bool
waits_by None t = is_waiting t
waits_by (Some how) t = true
