-- So many cells, one behind the other.
use Rattle.std.proofs.Common.{◌≡◌, ℕ, suc, ◌+◌, ◌-◌, ◌<◌, List, [], ◌∷◌, ◌++◌, IfSome, Result, Ok, Err, IsErrAnd, refl, sym, ap, ◌∙◌, subst, append_assoc, append-nil, arith}
use Rattle.lg_base.specs.Reading.{Cursor}
use Rattle.wire_form.specs.Fields.{Found, and_then}
use Rattle.wire_form.specs.Payloads.{Steps}
use Rattle.wire_form.proofs.Joined.{found_as, failed_at}
use Rattle.result_sets.specs.Faults.{malformed_at}
use Rattle.result_sets.specs.declared.fault.PayloadFault.{PayloadFault}
use Rattle.result_sets.specs.declared.fault.PayloadFault.TheVariants.{Malformed, Memory}
use Rattle.result_sets.specs.Layout.{cell, cells, joined}
use Rattle.result_sets.specs.declared.table.Cell.{Cell}

-- cells, and behind them those that are found
abbrev pub onto : List Cell → Found (List Cell) → Found (List Cell)
onto vs (Ok p) = Ok (vs ++ p.0, p.1)
onto vs (Err at) = Err at

-- what reading n cells finds, of which these were found so far
abbrev pub FoundSoFar : ℕ → Cursor → List Cell → Cursor → ℕ → Type 0
FoundSoFar n start vs next counter = (cells n).read start ≡ onto vs ((cells (n - counter)).read next)

onto_nil : (r : Found (List Cell)) → onto [] r ≡ r
onto_nil (Ok p) = refl
onto_nil (Err at) = refl

pub none_found : (n : ℕ) (start : Cursor) (vs : List Cell) → vs ≡ [] → FoundSoFar n start vs start 0
none_found n start vs e =
    let all : n ≡ n - 0 = omega arith in
    sym (onto_nil ((cells n).read start)) ∙ ap (λ (k : ℕ). onto [] ((cells k).read start)) all ∙ ap (λ (w : List Cell). onto w ((cells (n - 0)).read start)) (sym e)

behind : Cell → Found (List Cell) → Found (List Cell)
behind v (Ok p) = Ok (v ∷ p.0, p.1)
behind v (Err at) = Err at

abbrev pair : Cell → List Cell → Cell × List Cell
pair v vs = (v, vs)

-- what is found behind a cell
abbrev behind_cell : ℕ → Found Cell → Found (List Cell)
behind_cell n r = and_then (and_then r (λ a d. and_then ((cells n).read d) (λ b last. found_as (pair a b) last))) (λ a d. found_as (joined a) d)

abbrev joined_behind : Cell → Found (List Cell) → Found (List Cell)
joined_behind v r = and_then (and_then r (λ b last. found_as (pair v b) last)) (λ a d. found_as (joined a) d)

cells_ok : (n : ℕ) (c next : Cursor) (v : Cell) → cell.read c ≡ found_as v next → (cells (suc n)).read c ≡ behind v ((cells n).read next)
unfolding behind
cells_ok n c next v e = ap (λ (r : Found Cell). behind_cell n r) e ∙ by_rest ((cells n).read next)
  where
    by_rest : (r : Found (List Cell)) → joined_behind v r ≡ behind v r
    by_rest (Ok p) = refl
    by_rest (Err at) = refl

cells_err : (n : ℕ) (c : Cursor) (at : ℕ) → cell.read c ≡ failed_at at → (cells (suc n)).read c ≡ failed_at at
cells_err n c at e = ap (λ (r : Found Cell). behind_cell n r) e

onto_behind : (vs : List Cell) (v : Cell) (r : Found (List Cell)) → onto vs (behind v r) ≡ onto (vs ++ v ∷ []) r
unfolding behind
onto_behind vs v (Ok p) = ap (λ (w : List Cell). found_as w p.1) (sym (append_assoc vs (v ∷ []) p.0))
onto_behind vs v (Err at) = refl

left : (n counter : ℕ) → counter < n → n - counter ≡ suc (n - (counter + 1))
left n counter h = omega (arith, h)

pub one_more_found : (n : ℕ) (start c next : Cursor) (vs longer : List Cell) (v : Cell) (counter : ℕ) → FoundSoFar n start vs c counter → counter < n →
    cell.read c ≡ Ok (v, next) → longer ≡ vs ++ v ∷ [] → FoundSoFar n start longer next (counter + 1)
one_more_found n start c next vs longer v counter so_far h e is =
    so_far ∙ ap (λ (k : ℕ). onto vs ((cells k).read c)) (left n counter h)
    ∙ ap (λ (r : Found (List Cell)). onto vs r) (cells_ok (n - (counter + 1)) c next v e)
    ∙ onto_behind vs v ((cells (n - (counter + 1))).read next)
    ∙ ap (λ (w : List Cell). onto w ((cells (n - (counter + 1))).read next)) (sym is)

not_found_further : (n : ℕ) (start c : Cursor) (vs : List Cell) (at counter : ℕ) → FoundSoFar n start vs c counter → counter < n →
    cell.read c ≡ Err at → (cells n).read start ≡ Err at
not_found_further n start c vs at counter so_far h e =
    so_far ∙ ap (λ (k : ℕ). onto vs ((cells k).read c)) (left n counter h)
    ∙ ap (λ (r : Found (List Cell)). onto vs r) (cells_err (n - (counter + 1)) c at e)

-- a fault of a reader that is handed on
pub handed_on : {A : Type 0} (next : Cursor) (result : Result A PayloadFault) (e : PayloadFault) (found : Found A) → IsErrAnd result (λ given. given ≡ e) →
    IfSome (malformed_at e) (λ at. found ≡ Err at) → Steps (λ x. x) malformed_at next result found
handed_on next (Err given) e found is h = subst (λ (f : PayloadFault). IfSome (malformed_at f) (λ at. found ≡ Err at)) (sym is) h
handed_on next (Ok x) e found is h = absurd is

-- where a cell isn't found, the cells aren't
pub no_cells : (n : ℕ) (start c : Cursor) (vs : List Cell) (counter : ℕ) (e : PayloadFault) → FoundSoFar n start vs c counter → counter < n →
    IfSome (malformed_at e) (λ at. cell.read c ≡ Err at) → IfSome (malformed_at e) (λ at. (cells n).read start ≡ Err at)
no_cells n start c vs counter (Malformed at) so_far h fails = not_found_further n start c vs at counter so_far h fails
no_cells n start c vs counter Memory so_far h fails = tt

pub all_found : (n : ℕ) (start c : Cursor) (vs : List Cell) (counter : ℕ) → FoundSoFar n start vs c counter → n ≡ counter → (cells n).read start ≡ Ok (vs, c)
all_found n start c vs counter so_far all =
    let none : n - counter ≡ 0 = omega (arith, all) in
    so_far ∙ ap (λ (k : ℕ). onto vs ((cells k).read c)) none ∙ ap (λ (w : List Cell). found_as w c) (append-nil vs)
