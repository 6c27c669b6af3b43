-- What the grammar of statements gives.
use Rattle.std.proofs.Common.{◌≡◌, refl, ap, sym, ◌∙◌, ℕ, ◌≤◌, List, [], ◌∷◌, length, Bool, false, Option, Some, None, inl, inr, subst, arith}
use Rattle.stmt_tokens.specs.declared.token.Token.{Token}
use Rattle.stmt_rules.specs.Grammar.{alter, alter_named, alter_of, alter_own, auth, change, create, discarded, dropped, factors, flushed, grant, numbered, own_change, password, retained, revoke, statement, ways}
use Rattle.stmt_rules.specs.declared.statement.Auth.{Auth}
use Rattle.stmt_rules.specs.declared.statement.Change.{Change}
use Rattle.stmt_rules.specs.declared.statement.FactorAuth.{FactorAuth}
use Rattle.stmt_rules.specs.declared.statement.Statement.{Statement}
use Rattle.stmt_rules.specs.declared.statement.Target.{Target}
use Rattle.stmt_rules.specs.declared.statement.Target.TheVariants.{Own, Named}
use Rattle.account_history.specs.Refusals.{retains}
use Rattle.account_history.specs.Sound.{AddsAtMostThird, GrammarIsWritten, IsWritten}

-- ## CREATE USER

no-retain-behind-by : (method : Option (List ℕ)) (a : Auth) (ts rest : List Token) → (password false method).spells a ts rest → a.retain ≡ false
unfolding password retained
no-retain-behind-by method a ts rest (inl (e, (r, mid, s, (same, at)))) = ap (λ (x : Auth). x.retain) same ∙ s.0
no-retain-behind-by method a ts rest (inr (e, bad)) = absurd bad

no-retain : (a : Auth) (ts rest : List Token) → (auth false).spells a ts rest → a.retain ≡ false
unfolding auth
no-retain a ts rest (inl (e, s)) = no-retain-behind-by None a _ rest s
no-retain a ts rest (inr (e, inl (f, inl (g, inl (h, s))))) = no-retain-behind-by (Some _) a _ rest s
no-retain a ts rest (inr (e, inl (f, inl (g, inr (h, (same, at)))))) = ap (λ (x : Auth). x.retain) same
no-retain a ts rest (inr (e, inl (f, inr (g, bad)))) = absurd bad
no-retain a ts rest (inr (e, inr (f, bad))) = absurd bad

two-factors : (fs : List FactorAuth) (ts rest : List Token) → factors.spells fs ts rest → length fs ≤ 2
unfolding factors
two-factors fs ts rest (inl (e, (second, m, s, inl (f, (third, n, t, (same, at)))))) = let long = ap length same in omega arith
two-factors fs ts rest (inl (e, (second, m, s, inr (f, (same, at))))) = let long = ap length same in omega arith
two-factors fs ts rest (inr (e, (same, at))) = let long = ap length same in omega arith

few-ways : (w : Option Auth × List FactorAuth) (ts rest : List Token) → ways.spells w ts rest → (retains w.0 ≡ false) × (length w.1 ≤ 2)
unfolding ways
few-ways w ts rest (inl (e, (a, m, s, (fs, n, t, (same, at))))) =
    let few = two-factors fs m n t in
    let long = ap (λ (x : Option Auth × List FactorAuth). length x.1) same in
    (ap (λ (x : Option Auth × List FactorAuth). retains x.0) same ∙ no-retain a _ m s, omega arith)
few-ways w ts rest (inr (e, (same, at))) =
    let long = ap (λ (x : Option Auth × List FactorAuth). length x.1) same in
    (ap (λ (x : Option Auth × List FactorAuth). retains x.0) same, omega arith)

create-written : (v : Statement) (ts rest : List Token) → create.spells v ts rest → IsWritten v
unfolding create
create-written v ts rest (n, m, s, (w, k, t, (o, l, u, (x, j, y, (same, at))))) = subst IsWritten (sym same) (few-ways w m k t)

-- ## ALTER USER

second-or-third : (n : ℕ) (ts rest : List Token) → numbered.spells n ts rest → n ≤ 3
unfolding numbered
second-or-third n ts rest (inl (e, inl (f, (same, at)))) = omega arith
second-or-third n ts rest (inl (e, inr (f, bad))) = absurd bad
second-or-third n ts rest (inr (e, inl (f, inl (g, (same, at))))) = omega arith
second-or-third n ts rest (inr (e, inl (f, inr (g, bad)))) = absurd bad
second-or-third n ts rest (inr (e, inr (f, bad))) = absurd bad

discard-written : (c : Change) (ts rest : List Token) → discarded.spells c ts rest → AddsAtMostThird c
unfolding discarded
discard-written c ts rest (inl (e, inl (f, (same, at)))) = subst AddsAtMostThird (sym same) tt
discard-written c ts rest (inl (e, inr (f, bad))) = absurd bad
discard-written c ts rest (inr (e, bad)) = absurd bad

change-written : (c : Change) (ts rest : List Token) → change.spells c ts rest → AddsAtMostThird c
unfolding change
change-written c ts rest (inl (e, (a, m, s, (same, at)))) = subst AddsAtMostThird (sym same) tt
change-written c ts rest (inr (e, inl (f, s))) = discard-written c _ rest s
change-written c ts rest (inr (e, inr (f, inl (g, (n, m, s, (x, k, t, (same, at))))))) =
    subst AddsAtMostThird (sym same) (second-or-third n _ m s)
change-written c ts rest (inr (e, inr (f, inr (g, inl (h, (n, m, s, (x, k, t, (same, at)))))))) = subst AddsAtMostThird (sym same) tt
change-written c ts rest (inr (e, inr (f, inr (g, inr (h, inl (i, (n, m, s, (same, at)))))))) = subst AddsAtMostThird (sym same) tt
change-written c ts rest (inr (e, inr (f, inr (g, inr (h, inr (i, (same, at))))))) = subst AddsAtMostThird (sym same) tt

own-written : (c : Change) (ts rest : List Token) → own_change.spells c ts rest → AddsAtMostThird c
unfolding own_change
own-written c ts rest (inl (e, inl (f, (a, m, s, (same, at))))) = subst AddsAtMostThird (sym same) tt
own-written c ts rest (inl (e, inr (f, bad))) = absurd bad
own-written c ts rest (inr (e, inl (f, s))) = discard-written c _ rest s
own-written c ts rest (inr (e, inr (f, bad))) = absurd bad

alter-of-written : (target : Target) (v : Statement) (ts rest : List Token) → (alter_of target).spells v ts rest → IsWritten v
unfolding alter_own alter_named
alter-of-written Own v ts rest (c, m, s, (x, k, t, (same, at))) = subst IsWritten (sym same) (own-written c ts m s)
alter-of-written (Named n) v ts rest (c, m, s, (o, k, t, (x, l, u, (same, at)))) = subst IsWritten (sym same) (change-written c ts m s)

alter-written : (v : Statement) (ts rest : List Token) → alter.spells v ts rest → IsWritten v
unfolding alter
alter-written v ts rest (target, m, s, t) = alter-of-written target v m rest t

-- ## The others

drop-written : (v : Statement) (ts rest : List Token) → dropped.spells v ts rest → IsWritten v
unfolding dropped
drop-written v ts rest (n, m, s, (x, k, t, (same, at))) = subst IsWritten (sym same) tt

flush-written : (v : Statement) (ts rest : List Token) → flushed.spells v ts rest → IsWritten v
unfolding flushed
flush-written v ts rest (inl (e, (x, m, s, (same, at)))) = subst IsWritten (sym same) tt
flush-written v ts rest (inr (e, bad)) = absurd bad

grant-written : (v : Statement) (ts rest : List Token) → grant.spells v ts rest → IsWritten v
unfolding grant
grant-written v ts rest (p, m, s, (x, k, t, inl (e, (n, l, u, (y, j, z, (same, at)))))) = subst IsWritten (sym same) tt
grant-written v ts rest (p, m, s, (x, k, t, inr (e, bad))) = absurd bad

revoke-written : (v : Statement) (ts rest : List Token) → revoke.spells v ts rest → IsWritten v
unfolding revoke
revoke-written v ts rest (p, m, s, (x, k, t, inl (e, (n, l, u, (y, j, z, (same, at)))))) = subst IsWritten (sym same) tt
revoke-written v ts rest (p, m, s, (x, k, t, inr (e, bad))) = absurd bad

pub grammar-written : GrammarIsWritten
unfolding statement
grammar-written v ts rest (inl (e, inl (f, s))) = create-written v _ rest s
grammar-written v ts rest (inl (e, inr (f, bad))) = absurd bad
grammar-written v ts rest (inr (e, inl (f, inl (g, s)))) = alter-written v _ rest s
grammar-written v ts rest (inr (e, inl (f, inr (g, bad)))) = absurd bad
grammar-written v ts rest (inr (e, inr (f, inl (g, inl (h, s))))) = drop-written v _ rest s
grammar-written v ts rest (inr (e, inr (f, inl (g, inr (h, bad))))) = absurd bad
grammar-written v ts rest (inr (e, inr (f, inr (g, inl (h, s))))) = flush-written v _ rest s
grammar-written v ts rest (inr (e, inr (f, inr (g, inr (h, inl (i, s)))))) = grant-written v _ rest s
grammar-written v ts rest (inr (e, inr (f, inr (g, inr (h, inr (i, inl (j, s))))))) = revoke-written v _ rest s
grammar-written v ts rest (inr (e, inr (f, inr (g, inr (h, inr (i, inr (j, bad))))))) = absurd bad
