-- The accounts of every start are sound, and each has a record that fits: those that an opening gives, and those that are
-- loaded from a keeper's rows. So those after every legal history from either start are sound and have records that fit.
use Rattle.std.specs.Prelude.{◌≡◌, true, List}
use Rattle.std.specs.List.{All}
use Rattle.lg_outside.specs.Keeping.{Ascend}
use Rattle.lg_outside.specs.declared.keepers.Row.{Row as Kept}
use Rattle.account_rules.specs.declared.accounts.Account.{Account}
use Rattle.account_keeper.specs.Record.{FitsRecord}
use Rattle.account_history.specs.declared.entries.Opening.{Opening}
use Rattle.account_history.specs.Sound.{AreSound}
use Rattle.account_machine.specs.Loading.{AreLoadable, loaded_accounts}
use Rattle.account_machine.specs.Openings.{are_openings, opening_accounts}

-- of an opening
abbrev pub OpenedAreSound : Type 0
OpenedAreSound = (openings : List Opening) → are_openings openings ≡ true → AreSound (opening_accounts openings)

-- of a load
abbrev pub LoadedAreSound : Type 0
LoadedAreSound = (rows : List Kept) (accounts : List Account) → Ascend rows → AreLoadable rows accounts → AreSound (loaded_accounts accounts)

-- each account of an opening has a record
abbrev pub OpenedFit : Type 0
OpenedFit = (openings : List Opening) → are_openings openings ≡ true → All FitsRecord (opening_accounts openings)

-- each account of a load has a record
abbrev pub LoadedFit : Type 0
LoadedFit = (rows : List Kept) (accounts : List Account) → Ascend rows → AreLoadable rows accounts → All FitsRecord (loaded_accounts accounts)
