-- What is true of every statement that some text is.
use Rattle.std.proofs.Common.{◌≡◌, ℕ, ◌<◌, ◌≤◌, ◌||◌, Bool, true, false, List, [], length, Option, Some, None, ◌⊎◌}
use Rattle.stmt_rules.specs.Grammar.{is_nothing, no_options}
use Rattle.stmt_rules.specs.declared.statement.Auth.{Auth}
use Rattle.stmt_rules.specs.declared.statement.Bound.{Bound}
use Rattle.stmt_rules.specs.declared.statement.Bound.TheVariants as bounds
use Rattle.stmt_rules.specs.declared.statement.Change.{Change}
use Rattle.stmt_rules.specs.declared.statement.Change.TheVariants.{Nothing, Password, Discard, Add, Modify, DropFactor}
use Rattle.stmt_rules.specs.declared.statement.Expire.{Expire}
use Rattle.stmt_rules.specs.declared.statement.Expire.TheVariants as expires
use Rattle.stmt_rules.specs.declared.statement.FactorAuth.{FactorAuth}
use Rattle.stmt_rules.specs.declared.statement.Options.{Options}
use Rattle.stmt_rules.specs.declared.statement.Statement.{Statement}
use Rattle.stmt_rules.specs.declared.statement.Statement.TheVariants.{Create, Alter, Drop, Flush, Grant, Revoke}
use Rattle.stmt_rules.specs.declared.statement.Target.TheVariants.{Own, Named}
use Rattle.stmt_rules.specs.declared.statement.Time.{Time}
use Rattle.stmt_rules.specs.declared.statement.Time.TheVariants as time

abbrev pub FitNumber : ℕ → Type 0
FitNumber n = n < 4294967296

abbrev pub FitExpire : Option Expire → Type 0
FitExpire (Some (expires.Days n)) = FitNumber n
FitExpire _ = Unit {0}

abbrev pub FitBound : Option Bound → Type 0
FitBound (Some (bounds.Count n)) = FitNumber n
FitBound _ = Unit {0}

abbrev pub FitCount : Option ℕ → Type 0
FitCount (Some n) = FitNumber n
FitCount None = Unit {0}

abbrev pub FitTime : Option Time → Type 0
FitTime (Some (time.Days n)) = FitNumber n
FitTime _ = Unit {0}

pub record FitOptions (o : Options) : Type 0 where
  pub expire : FitExpire o.expire
  pub history : FitBound o.history
  pub reuse : FitBound o.reuse
  pub attempts : FitCount o.attempts
  pub lock_time : FitTime o.lock_time

-- a method or a password stands; the old password is kept only behind a password, and where it may be
abbrev pub FitParts : Bool → Option (List ℕ) → Option (List ℕ) → Bool → Type 0
FitParts keeps method (Some password) retain = keeps ≡ false → retain ≡ false
FitParts keeps (Some method) None retain = retain ≡ false
FitParts keeps None None retain = ⊥

pub record FitAuth (keeps : Bool) (a : Auth) : Type 0 where
  pub parts : FitParts keeps a.method a.password a.retain

-- a password alone
abbrev pub FitPassword : Option (List ℕ) → Option (List ℕ) → Type 0
FitPassword None (Some password) = Unit {0}
FitPassword _ _ = ⊥

abbrev pub FitPlace : ℕ → Type 0
FitPlace n = (n ≡ 2) ⊎ (n ≡ 3)

abbrev pub FitChange : Change → Type 0
FitChange Nothing = Unit {0}
FitChange (Password a) = FitAuth true a
FitChange Discard = Unit {0}
FitChange (Add n f) = FitPlace n
FitChange (Modify n f) = FitPlace n
FitChange (DropFactor n) = FitPlace n

abbrev pub FitOwn : Change → Type 0
FitOwn (Password a) = FitPassword a.method a.password
FitOwn Discard = Unit {0}
FitOwn _ = ⊥

abbrev pub FitWays : Option Auth → List FactorAuth → Type 0
FitWays None fs = fs ≡ []
FitWays (Some a) fs = FitAuth false a × (length fs ≤ 2)

abbrev pub FitStatement : Statement → Type 0
FitStatement (Create n a fs o) = FitWays a fs × FitOptions o
FitStatement (Alter Own c o) = FitOwn c × (o ≡ no_options)
FitStatement (Alter (Named n) c o) = FitChange c × FitOptions o × (is_nothing c ≡ true → o ≡ no_options → ⊥)
FitStatement (Drop n) = Unit {0}
FitStatement Flush = Unit {0}
FitStatement (Grant p n) = (p.create_user || p.password_admin) ≡ true
FitStatement (Revoke p n) = (p.create_user || p.password_admin) ≡ true
