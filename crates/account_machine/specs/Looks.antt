-- What a look shows, by the place of its account among the rows.
use Rattle.std.specs.Prelude.{ℕ, List, [], Bool, if◌then◌else◌, Option, Some, None, map, option_map, slice_get}
use Rattle.std.specs.List.{position}
use Rattle.lg_base.specs.declared.names.Name.{Name}
use Rattle.factor_chain.specs.declared.credentials.InForce.{InForce}
use Rattle.factor_chain.specs.declared.credentials.Look.{Look}
use Rattle.account_history.specs.Answers.{shown}
use Rattle.account_history.specs.Records.{has_id, is_named}
use Rattle.account_rules.specs.declared.accounts.Account.{Account}
use Rattle.account_machine.specs.declared.rows.Row.{Row}

abbrev pub accounts_of : List Row → List Account
accounts_of rows = map (λ row. row.account) rows

-- the account at a place
abbrev pub account_at : List Row → Option ℕ → Option Account
account_at rows None = None
account_at rows (Some place) = option_map (λ row. row.account) (slice_get rows place)

-- the place of the account of a name, and of a number
abbrev pub place_named : List Row → Name → Option ℕ
place_named rows name = position (λ row. is_named name row.account) rows

abbrev pub place_numbered : List Row → ℕ → Option ℕ
place_numbered rows id = position (λ row. has_id id row.account) rows

-- an account as a look shows it, with its past passwords or without
abbrev pub shown_account : (digests : ℕ → Option (List ℕ)) → Bool → Account → InForce
shown_account digests whole account = shown digests (if whole then account.past else []) account

-- a look of a user at an account
abbrev pub plain_look : (digests : ℕ → Option (List ℕ)) → List ℕ → (stamp : ℕ) → Bool → Option Account → Look
plain_look digests user stamp whole account =
    record { user = user; stamp = stamp; in_force = option_map (shown_account digests whole) account }
