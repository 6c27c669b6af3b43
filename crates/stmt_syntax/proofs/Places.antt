-- What is read is what the grammar says, and the place of a fault is where no statement fits.
use Rattle.std.proofs.Common.{◌≡◌, ℕ, List, [], ◌∷◌, ◌++◌, length, IfOk, Result, Ok, Err, sym, ap, ◌∙◌, append_assoc, refl}
use Rattle.std.proofs.lemmas.List.{append-nil}
use Rattle.stmt_rules.proofs.Onward.{AtEnd, Completes, completed}
use Rattle.stmt_rules.proofs.OnwardRules.{statement_lively}
use Rattle.stmt_rules.specs.Forms.{Read, gives_sound, read_err, read_ok, rest_of, with_rest}
use Rattle.stmt_rules.specs.Grammar.{statement}
use Rattle.stmt_syntax.specs.Reading.{Accepts, GoesOn, IsPlace, IsReadable, IsText, NoneFits, Reads, reading}
use Rattle.stmt_rules.specs.Taking.{place_of}
use Rattle.stmt_tokens.specs.Tokens.{tokens}
use Rattle.stmt_rules.specs.declared.statement.Statement.{Statement}
use Rattle.stmt_syntax.specs.declared.SyntaxFault.{SyntaxFault}
use Rattle.stmt_syntax.specs.declared.SyntaxFault.TheVariants as syntax
use Rattle.stmt_tokens.specs.declared.token.Token.{Token}

pub one_statement : (text : List ℕ) (v : Statement) → reading text ≡ Ok (v, []) → (w : Statement) → IsText w text → w ≡ v
one_statement text v h w s =
    let e : read_ok v [] ≡ read_ok w [] = sym h ∙ statement.complete w (tokens text) [] s in
    (gives_sound v w [] [] e).0

none_fits : (before rest : List Token) → statement.read (before ++ rest) ≡ read_err rest → NoneFits before rest
none_fits before [] h = λ v s.
    let e : before ++ [] ≡ before = append-nil before in
    let c : statement.read before ≡ read_ok v [] = statement.complete v before [] s in
    let f : statement.read (before ++ []) ≡ read_ok v [] = ap statement.read e ∙ c in
    cc
none_fits before (t ∷ rest) h = λ v more s.
    let moved : statement.read (before ++ t ∷ more) ≡ read_err (t ∷ more) =
    statement.local.stops before t rest more (ap rest_of h) ∙ ap (with_rest (t ∷ more)) h in
    let c : statement.read (before ++ t ∷ more) ≡ read_ok v [] = statement.complete v (before ++ t ∷ more) [] s in
    cc

pub not_text : (text : List ℕ) (rest : List Token) → reading text ≡ Err rest → (w : Statement) → IsText w text → ⊥
not_text text rest h w s =
    let e : read_err rest ≡ read_ok w [] = sym h ∙ statement.complete w (tokens text) [] s in cc

-- what stands before the end or the fault of a reading goes on to a statement
pub goes_on : (before rest : List Token) → rest_of (statement.read (before ++ rest)) ≡ rest → GoesOn before
goes_on before rest h =
    let c : Completes AtEnd statement before = completed AtEnd statement statement_lively before rest h in
    let read : statement.read (before ++ (c.more ++ [])) ≡ Ok (c.value, []) = c.reads [] refl in
    let same : c.more ++ [] ≡ c.more = append-nil c.more in
    (c.more, c.value, statement.sound c.value (before ++ c.more) [] (rw same at read))

pub place_fits : (text : List ℕ) (place : ℕ) (rest : List Token) → reading text ≡ Err rest → place ≡ place_of (length text) rest → IsPlace text place
place_fits text place rest h e =
    let s = statement.local.suffix (tokens text) in
    let split : tokens text ≡ s.0 ++ rest = s.1 ∙ ap (λ (r : Read Statement). s.0 ++ rest_of r) h in
    let read : statement.read (s.0 ++ rest) ≡ read_err rest = ap statement.read (sym split) ∙ h in
    (s.0, rest, split, e, goes_on s.0 rest (ap rest_of read), none_fits s.0 rest read)

pub accepts : (text : List ℕ) (r : Result Statement SyntaxFault) → Reads text r → Accepts text r
accepts text (Ok v) h = (statement.sound v (tokens text) [] h, one_statement text v h)
accepts text (Err (syntax.At place)) (rest, h, e) = (place_fits text place rest h e, not_text text rest h)
accepts text (Err syntax.Memory) h = h

pub readable : (text : List ℕ) (r : Result Statement SyntaxFault) → Reads text r → IfOk r IsReadable
readable text (Ok v) h = (text, statement.sound v (tokens text) [] h)
readable text (Err fault) h = tt

-- Of two beginnings of the same tokens, at which no statement fits and which go on, neither is longer.
same_rest : (text : List ℕ) (front before1 rest1 before2 rest2 : List Token) → before1 ++ rest1 ≡ before2 ++ rest2
    → GoesOn (front ++ before1) → NoneFits (front ++ before1) rest1 → GoesOn (front ++ before2) → NoneFits (front ++ before2) rest2 → rest1 ≡ rest2
same_rest text front [] rest1 [] rest2 e g1 n1 g2 n2 = e
same_rest text front [] rest1 (t ∷ b2) rest2 e g1 n1 (more, v, s) n2 =
    let fits : NoneFits (front ++ []) (t ∷ (b2 ++ rest2)) = rw e at n1 in
    let none : front ++ [] ≡ front = append-nil front in
    let fits2 : NoneFits front (t ∷ (b2 ++ rest2)) = rw none at fits in
    let split : (front ++ t ∷ b2) ++ more ≡ front ++ (t ∷ (b2 ++ more)) = append_assoc front (t ∷ b2) more in
    absurd (fits2 v (b2 ++ more) (rw split at s))
same_rest text front (t ∷ b1) rest1 [] rest2 e (more, v, s) n1 g2 n2 =
    let back : rest2 ≡ t ∷ (b1 ++ rest1) = sym e in
    let fits : NoneFits (front ++ []) (t ∷ (b1 ++ rest1)) = rw back at n2 in
    let none : front ++ [] ≡ front = append-nil front in
    let fits2 : NoneFits front (t ∷ (b1 ++ rest1)) = rw none at fits in
    let split : (front ++ t ∷ b1) ++ more ≡ front ++ (t ∷ (b1 ++ more)) = append_assoc front (t ∷ b1) more in
    absurd (fits2 v (b1 ++ more) (rw split at s))
same_rest text front (t ∷ b1) rest1 (u ∷ b2) rest2 e g1 n1 g2 n2 =
    let same : t ≡ u = cc in
    let tails : b1 ++ rest1 ≡ b2 ++ rest2 = cc in
    let move1 : front ++ t ∷ b1 ≡ (front ++ t ∷ []) ++ b1 = sym (append_assoc front (t ∷ []) b1) in
    let move2 : front ++ u ∷ b2 ≡ (front ++ t ∷ []) ++ b2 = rw (← same) (sym (append_assoc front (t ∷ []) b2)) in
    same_rest text (front ++ t ∷ []) b1 rest1 b2 rest2 tails (rw move1 at g1) (rw move1 at n1) (rw move2 at g2) (rw move2 at n2)

pub one_place : (text : List ℕ) (left right : ℕ) → IsPlace text left → IsPlace text right → left ≡ right
one_place text left right (before1, rest1, e1, p1, g1, n1) (before2, rest2, e2, p2, g2, n2) =
    let same : rest1 ≡ rest2 = same_rest text [] before1 rest1 before2 rest2 (sym e1 ∙ e2) g1 n1 g2 n2 in
    p1 ∙ ap (place_of (length text)) same ∙ sym p2
