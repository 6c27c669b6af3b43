-- Which replies to an attempt open a session.
use Rattle.std.specs.Prelude.{Bool, true, false}
use Rattle.account_history.specs.declared.entries.Reply.{Reply}
use Rattle.account_history.specs.declared.entries.Reply.TheVariants.{Opened, Sandbox, Blocked, Denied, Locked, MustChange}

-- a session opened
abbrev pub opens : Reply → Bool
opens (Opened account host) = true
opens (Sandbox account host) = true
opens (Blocked rule left) = false
opens (Denied using_password) = false
opens Locked = false
opens MustChange = false
