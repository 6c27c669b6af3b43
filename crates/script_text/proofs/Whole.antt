-- What is read line by line is a script as a whole, and the other way round.
use Rattle.std.proofs.Common.{◌≡◌, ⊎_elim, ℕ, Bool, true, false, cond, ◌||◌, List, [], ◌∷◌, ◌++◌, map, Option, Some, None, Result, Ok, Err, IfOk, refl, sym, ap, ◌∙◌, append_assoc}
use Rattle.std.specs.Option.{option_and_then, option_map}
use Rattle.std.specs.List.{list_any}
use Rattle.std.specs.Str.{bytes_eq}
use Rattle.std.proofs.lemmas.List.Folds.{list_any-append}
use Rattle.account_history.specs.declared.entries.Opening.{Opening}
use Rattle.account_machine.specs.Openings.{are_openings, is_opening}
use Rattle.account_rules.specs.declared.accounts.Settings.{Settings}
use Rattle.script_text.specs.Grammar.{Accepts, SetupLine, Account, Set, Spells, accounts_of, said, settings_from, setup_line, with_said}
use Rattle.script_text.specs.Lines.{line_of}
use Rattle.script_text.specs.Reading.{Contents, DoesNotFit, IsContents, IsScript, Progress, Reads, after_lines, contents_of, is_used, start, taken, taken_if, with_setting}
use Rattle.script_text.specs.Words.{parts}
use Rattle.script_text.specs.declared.ScriptFault.{ScriptFault}
use Rattle.script_text.specs.declared.ScriptFault.TheVariants as fault
use Rattle.script_text.specs.declared.event.Event.{Event}
use Rattle.script_text.specs.declared.line.Line.{Line}
use Rattle.script_text.specs.declared.line.Line.TheVariants as line
use Rattle.script_text.specs.declared.progress.Phase.{Phase}
use Rattle.script_text.specs.declared.progress.Phase.TheVariants as phase
use Rattle.script_text.proofs.Standing.{after-append}
use Rattle.script_text.proofs.Users.{all_three, bytes_eq-swap, neither}

abbrev prog : Phase → List Opening → Settings → List Event → Progress
prog at accounts settings events = record { phase = at; accounts = accounts; settings = settings; events = events }

-- with what lines say, one after another
abbrev takes : List Line → Progress → Option Progress
takes [] p = Some p
takes (line ∷ lines) p = option_and_then (λ q. takes lines q) (taken line p)

append-nil : {X : Type 0} (xs : List X) → xs ++ [] ≡ xs
append-nil [] = refl
append-nil (x ∷ xs) = ap (λ rest. x ∷ rest) (append-nil xs)

both : (lines : List (List ℕ)) (ms : List Line) (next : Option Progress) → ((q : Progress) → after_lines lines q ≡ takes ms q)
    → option_and_then (λ q. after_lines lines q) next ≡ option_and_then (λ q. takes ms q) next
both lines ms None same = refl
both lines ms (Some q) same = same q

cons-step : (l : Line) (more : Option (List Line)) (lines : List (List ℕ)) (ls : List Line) (p : Progress) → option_map (λ ms. l ∷ ms) more ≡ Some ls
    → ((ms : List Line) (q : Progress) → more ≡ Some ms → after_lines lines q ≡ takes ms q) → option_and_then (λ q. after_lines lines q) (taken l p) ≡ takes ls p
cons-step l None lines ls p h same = cc
cons-step l (Some ms) lines ls p h same =
    let e : l ∷ ms ≡ ls = cc in
    both lines ms (taken l p) (λ q. same ms q refl) ∙ ap (λ (ls : List Line). takes ls p) e

line-step : (found : Option Line) (more : Option (List Line)) (lines : List (List ℕ)) (ls : List Line) (p : Progress) → with_said found more ≡ Some ls
    → ((ms : List Line) (q : Progress) → more ≡ Some ms → after_lines lines q ≡ takes ms q) → option_and_then (λ q. after_lines lines q) (taken_if found p) ≡ takes ls p
line-step None more lines ls p h same = cc
line-step (Some line.Skipped) more lines ls p h same = same ls p h
line-step (Some (line.Account o)) more lines ls p h same = cons-step (line.Account o) more lines ls p h same
line-step (Some (line.Set s)) more lines ls p h same = cons-step (line.Set s) more lines ls p h same
line-step (Some (line.Happens e)) more lines ls p h same = cons-step (line.Happens e) more lines ls p h same
line-step (Some line.End) more lines ls p h same = cons-step line.End more lines ls p h same

-- lines are read as what they say
read-said : (lines : List (List ℕ)) (ls : List Line) (p : Progress) → said lines ≡ Some ls → after_lines lines p ≡ takes ls p
read-said [] ls p h = let e : [] ≡ ls = cc in ap (λ (ls : List Line). takes ls p) e
read-said (line ∷ lines) ls p h = line-step (line_of line) (said lines) lines ls p h (λ ms q e. read-said lines ms q e)

openings-fresh : (xs : List Opening) (o : Opening) (ys : List Opening) → are_openings (xs ++ o ∷ ys) ≡ true → is_used o.user xs ≡ false
openings-fresh [] o ys h = refl
openings-fresh (x ∷ xs) o ys h =
    let tests = all_three (is_opening x) (list_any (λ other. bytes_eq x.user other.user) (xs ++ o ∷ ys)) (are_openings (xs ++ o ∷ ys)) h in
    let behind = neither (list_any (λ other. bytes_eq x.user other.user) xs) (list_any (λ other. bytes_eq x.user other.user) (o ∷ ys))
    (sym (list_any-append (λ (other : Opening). bytes_eq x.user other.user) xs (o ∷ ys)) ∙ tests.1) in
    let apart = neither (bytes_eq x.user o.user) (list_any (λ other. bytes_eq x.user other.user) ys) behind.1 in
    ap (λ (b : Bool). b || is_used o.user xs) (bytes_eq-swap o.user x.user ∙ apart.0) ∙ openings-fresh xs o ys tests.2

setup-takes : (setup : List SetupLine) (accounts : List Opening) (settings : Settings) (rest : List Line) → are_openings (accounts ++ accounts_of setup) ≡ true
    → takes (map setup_line setup ++ rest) (prog phase.Setup accounts settings [])
    ≡ takes rest (prog phase.Setup (accounts ++ accounts_of setup) (settings_from settings setup) [])
setup-takes [] accounts settings rest h = ap (λ (own : List Opening). takes rest (prog phase.Setup own settings [])) (sym (append-nil accounts))
setup-takes (Account o ∷ more) accounts settings rest h =
    let same : (accounts ++ o ∷ []) ++ accounts_of more ≡ accounts ++ o ∷ accounts_of more = append_assoc accounts (o ∷ []) (accounts_of more) in
    ap (λ (b : Bool). option_and_then (λ q. takes (map setup_line more ++ rest) q) (cond b None (Some (prog phase.Setup (accounts ++ o ∷ []) settings []))))
    (openings-fresh accounts o (accounts_of more) h)
    ∙ setup-takes more (accounts ++ o ∷ []) settings rest (ap (λ (own : List Opening). are_openings own) same ∙ h)
    ∙ ap (λ (own : List Opening). takes rest (prog phase.Setup own (settings_from settings more) [])) same
setup-takes (Set s ∷ more) accounts settings rest h = setup-takes more accounts (with_setting settings s) rest h

events-take : (events : List Event) (accounts : List Opening) (settings : Settings) (before : List Event)
    → takes (map line.Happens events ++ line.End ∷ []) (prog phase.Events accounts settings before) ≡ Some (prog phase.Ended accounts settings (before ++ events))
events-take [] accounts settings before = ap (λ (es : List Event). Some (prog phase.Ended accounts settings es)) (sym (append-nil before))
events-take (e ∷ events) accounts settings before =
    events-take events accounts settings (before ++ e ∷ [])
    ∙ ap (λ (es : List Event). Some (prog phase.Ended accounts settings es)) (append_assoc before (e ∷ []) events)

all-events : (events : List Event) (accounts : List Opening) (settings : Settings)
    → takes (map line.Happens events ++ line.End ∷ []) (prog phase.Setup accounts settings []) ≡ Some (prog phase.Ended accounts settings events)
all-events [] accounts settings = refl
all-events (e ∷ events) accounts settings = events-take events accounts settings (e ∷ [])

-- a script as a whole is read
complete : (text : List ℕ) (script : Contents) → Spells text script → IsScript text script
complete text script s = record {
  lines = s.lines;
  said = prog phase.Ended script.setup.accounts script.setup.settings script.events;
  parts = s.parts;
  fit =
      read-said s.lines _ start s.said
      ∙ setup-takes s.setup [] start.settings (map line.Happens script.events ++ line.End ∷ []) s.distinct
      ∙ all-events script.events (accounts_of s.setup) (settings_from start.settings s.setup)
      ∙ ap (λ (own : List Opening). Some (prog phase.Ended own (settings_from start.settings s.setup) script.events)) (sym s.accounts)
      ∙ ap (λ (st : Settings). Some (prog phase.Ended script.setup.accounts st script.events)) (sym s.settings);
  ended = refl;
  same = refl;
}

abbrev says : Line → Type 0
says line.Skipped = ⊥
says _ = Unit {0}

abbrev NoneSkipped : List Line → Type 0
NoneSkipped [] = Unit {0}
NoneSkipped (line ∷ lines) = says line × NoneSkipped lines

found-cons : (l : Line) (more : Option (List Line)) → says l → (ms : List Line) × (more ≡ Some ms) × NoneSkipped ms
    → (ls : List Line) × (option_map (λ ms. l ∷ ms) more ≡ Some ls) × NoneSkipped ls
found-cons l more s (ms, e, n) = (l ∷ ms, ap (λ (more : Option (List Line)). option_map (λ ms. l ∷ ms) more) e, (s, n))

found-line : (l : Line) (more : Option (List Line)) → (ms : List Line) × (more ≡ Some ms) × NoneSkipped ms
    → (ls : List Line) × (with_said (Some l) more ≡ Some ls) × NoneSkipped ls
found-line line.Skipped more f = f
found-line (line.Account o) more f = found-cons (line.Account o) more tt f
found-line (line.Set s) more f = found-cons (line.Set s) more tt f
found-line (line.Happens e) more f = found-cons (line.Happens e) more tt f
found-line line.End more f = found-cons line.End more tt f

found-next : (l : Line) (lines : List (List ℕ)) (next : Option Progress) (q : Progress) → option_and_then (λ q. after_lines lines q) next ≡ Some q
    → ((p : Progress) → after_lines lines p ≡ Some q → (ms : List Line) × (said lines ≡ Some ms) × NoneSkipped ms)
    → (ls : List Line) × (with_said (Some l) (said lines) ≡ Some ls) × NoneSkipped ls
found-next l lines None q h same = cc
found-next l lines (Some p) q h same = found-line l (said lines) (same p h)

found-step : (found : Option Line) (lines : List (List ℕ)) (p q : Progress) → option_and_then (λ q. after_lines lines q) (taken_if found p) ≡ Some q
    → ((p : Progress) → after_lines lines p ≡ Some q → (ms : List Line) × (said lines ≡ Some ms) × NoneSkipped ms)
    → (ls : List Line) × (with_said found (said lines) ≡ Some ls) × NoneSkipped ls
found-step None lines p q h same = cc
found-step (Some l) lines p q h same = found-next l lines (taken l p) q h same

-- lines that fit are each of a kind
found : (lines : List (List ℕ)) (p q : Progress) → after_lines lines p ≡ Some q → (ls : List Line) × (said lines ≡ Some ls) × NoneSkipped ls
found [] p q h = ([], refl, tt)
found (line ∷ lines) p q h = found-step (line_of line) lines p q h (λ p h. found lines p q h)

none-behind : (ls : List Line) (accounts : List Opening) (settings : Settings) (events : List Event) (q : Progress)
    → takes ls (prog phase.Ended accounts settings events) ≡ Some q → NoneSkipped ls → (ls ≡ []) × (q ≡ prog phase.Ended accounts settings events)
none-behind [] accounts settings events q h n = (refl, cc)
none-behind (line.Skipped ∷ ls) accounts settings events q h n = absurd n.0
none-behind (line.Account o ∷ ls) accounts settings events q h n = cc
none-behind (line.Set s ∷ ls) accounts settings events q h n = cc
none-behind (line.Happens e ∷ ls) accounts settings events q h n = cc
none-behind (line.End ∷ ls) accounts settings events q h n = cc

events-found : (ls : List Line) (accounts : List Opening) (settings : Settings) (before : List Event) (q : Progress)
    → takes ls (prog phase.Events accounts settings before) ≡ Some q → q.phase ≡ phase.Ended → NoneSkipped ls
    → (events : List Event) × (ls ≡ map line.Happens events ++ line.End ∷ []) × (q ≡ prog phase.Ended accounts settings (before ++ events))
events-found [] accounts settings before q h e n = cc
events-found (line.Skipped ∷ ls) accounts settings before q h e n = absurd n.0
events-found (line.Account o ∷ ls) accounts settings before q h e n = cc
events-found (line.Set s ∷ ls) accounts settings before q h e n = cc
events-found (line.Happens x ∷ ls) accounts settings before q h e n =
    let more = events-found ls accounts settings (before ++ x ∷ []) q h e n.1 in
    (x ∷ more.0, ap (λ (ls : List Line). line.Happens x ∷ ls) more.1, more.2 ∙ ap (λ (es : List Event). prog phase.Ended accounts settings es) (append_assoc before (x ∷ []) more.0))
events-found (line.End ∷ ls) accounts settings before q h e n =
    let none = none-behind ls accounts settings before q h n.1 in
    ([], ap (λ (ls : List Line). line.End ∷ ls) none.0, none.1 ∙ ap (λ (es : List Event). prog phase.Ended accounts settings es) (sym (append-nil before)))

setup-found : (ls : List Line) (accounts : List Opening) (settings : Settings) (q : Progress)
    → takes ls (prog phase.Setup accounts settings []) ≡ Some q → q.phase ≡ phase.Ended → NoneSkipped ls
    → (setup : List SetupLine) × (events : List Event) × (ls ≡ map setup_line setup ++ (map line.Happens events ++ line.End ∷ []))
    × (q ≡ prog phase.Ended (accounts ++ accounts_of setup) (settings_from settings setup) events)
setup-found [] accounts settings q h e n = cc
setup-found (line.Skipped ∷ ls) accounts settings q h e n = absurd n.0
setup-found (line.Account o ∷ ls) accounts settings q h e n =
    let next : Bool → Option Progress = λ b. option_and_then (λ q. takes ls q) (cond b None (Some (prog phase.Setup (accounts ++ o ∷ []) settings []))) in
    let by : (b : Bool) → next b ≡ Some q → next false ≡ Some q =
    λ b. elim b as (λ b. next b ≡ Some q → next false ≡ Some q) [ true ↦ λ h. cc | false ↦ λ h. h ] in
    let more = setup-found ls (accounts ++ o ∷ []) settings q (by (is_used o.user accounts) h) e n.1 in (
      Account o ∷ more.0,
      more.1,
      ap (λ (ls : List Line). line.Account o ∷ ls) more.2,
      more.3 ∙ ap (λ (own : List Opening). prog phase.Ended own (settings_from settings more.0) more.1) (append_assoc accounts (o ∷ []) (accounts_of more.0)),
    )
setup-found (line.Set s ∷ ls) accounts settings q h e n =
    let more = setup-found ls accounts (with_setting settings s) q h e n.1 in
    (Set s ∷ more.0, more.1, ap (λ (ls : List Line). line.Set s ∷ ls) more.2, more.3)
setup-found (line.Happens x ∷ ls) accounts settings q h e n =
    let more = events-found ls accounts settings (x ∷ []) q h e n.1 in (
      [],
      x ∷ more.0,
      ap (λ (ls : List Line). line.Happens x ∷ ls) more.1,
      more.2 ∙ ap (λ (own : List Opening). prog phase.Ended own settings (x ∷ more.0)) (sym (append-nil accounts)),
    )
setup-found (line.End ∷ ls) accounts settings q h e n =
    let none = none-behind ls accounts settings [] q h n.1 in
    ([], [], ap (λ (ls : List Line). line.End ∷ ls) none.0, none.1 ∙ ap (λ (own : List Opening). prog phase.Ended own settings []) (sym (append-nil accounts)))

-- what is read is a script as a whole
sound : (text : List ℕ) (script : Contents) → are_openings script.setup.accounts ≡ true → IsScript text script → Spells text script
sound text script o s =
    let f = found s.lines start s.said s.fit in
    let whole = setup-found f.0 [] start.settings s.said (sym (read-said s.lines f.0 start f.1) ∙ s.fit) s.ended f.2 in
    let same : script ≡ contents_of (prog phase.Ended (accounts_of whole.0) (settings_from start.settings whole.0) whole.1) =
    s.same ∙ ap (λ (p : Progress). contents_of p) whole.3 in
    record {
      lines = s.lines;
      setup = whole.0;
      parts = s.parts;
      said = f.1 ∙ ap (λ (ls : List Line). Some ls) whole.2
          ∙ ap (λ (es : List Event). Some (map setup_line whole.0 ++ (map line.Happens es ++ line.End ∷ []))) (sym (ap (λ (c : Contents). c.events) same));
      accounts = ap (λ (c : Contents). c.setup.accounts) same;
      distinct = sym (ap (λ (c : Contents). are_openings c.setup.accounts) same) ∙ o;
      settings = ap (λ (c : Contents). c.setup.settings) same;
    }

not-nil : {X : Type 0} (xs : List X) (x : X) → xs ++ x ∷ [] ≡ [] → ⊥
not-nil [] x h = cc
not-nil (y ∷ xs) x h = cc

last-same : {X : Type 0} (xs ys : List X) (x y : X) → xs ++ x ∷ [] ≡ ys ++ y ∷ [] → (xs ≡ ys) × (x ≡ y)
last-same [] [] x y h = (refl, cc)
last-same [] (b ∷ ys) x y h = let e : [] ≡ ys ++ y ∷ [] = cc in absurd (not-nil ys y (sym e))
last-same (a ∷ xs) [] x y h = let e : xs ++ x ∷ [] ≡ [] = cc in absurd (not-nil xs x e)
last-same (a ∷ xs) (b ∷ ys) x y h =
    let e : xs ++ x ∷ [] ≡ ys ++ y ∷ [] = cc in
    let more = last-same xs ys x y e in
    let first : a ≡ b = cc in
    (ap (λ xs. a ∷ xs) more.0 ∙ ap (λ a. a ∷ ys) first, more.1)

front-of : {X : Type 0} (x : X) (xs : List X) → (front : List X) × (last : X) × (x ∷ xs ≡ front ++ last ∷ [])
front-of x [] = ([], x, refl)
front-of x (y ∷ ys) = let more = front-of y ys in (x ∷ more.0, more.1, ap (λ rest. x ∷ rest) more.2)

-- a text says one thing
one-script : (text : List ℕ) (a b : Contents) → IsScript text a → IsScript text b → b ≡ a
one-script text a b s t =
    let lines = last-same t.lines s.lines [] [] (sym t.parts ∙ s.parts) in
    let said : Some t.said ≡ Some s.said = sym t.fit ∙ ap (λ (ls : List (List ℕ)). after_lines ls start) lines.0 ∙ s.fit in
    let same : t.said ≡ s.said = cc in
    t.same ∙ ap (λ (p : Progress). contents_of p) same ∙ sym s.same

bad-no-script : (text : List ℕ) (line : List ℕ) (behind before : List (List ℕ)) (said : Progress) (script : Contents)
    → parts 10 text ≡ before ++ line ∷ behind → after_lines before start ≡ Some said → DoesNotFit said line behind → IsScript text script → ⊥
bad-no-script text line [] before said script p fit misfit s =
    let lines = last-same before s.lines line [] (sym p ∙ s.parts) in
    let told : Some said ≡ Some s.said = sym fit ∙ ap (λ (ls : List (List ℕ)). after_lines ls start) lines.0 ∙ s.fit in
    let same : said ≡ s.said = cc in
    ⊎_elim (λ n. n lines.1) (λ n. n (ap (λ (p : Progress). p.phase) same ∙ s.ended)) misfit
bad-no-script text line (next ∷ more) before said script p fit misfit s =
    let f = front-of next more in
    let lines = last-same (before ++ line ∷ f.0) s.lines f.1 []
    (append_assoc before (line ∷ f.0) (f.1 ∷ []) ∙ ap (λ (rest : List (List ℕ)). before ++ line ∷ rest) (sym f.2) ∙ sym p ∙ s.parts) in
    let told : None ≡ Some s.said =
    sym (after-append before (line ∷ f.0) start
    ∙ ap (λ (said : Option Progress). option_and_then (λ q. after_lines (line ∷ f.0) q) said) fit
    ∙ ap (λ (next : Option Progress). option_and_then (λ q. after_lines f.0 q) next) misfit)
    ∙ ap (λ (ls : List (List ℕ)). after_lines ls start) lines.0 ∙ s.fit in
    cc

-- what is read is accepted as a whole
pub accepts : (text : List ℕ) (found : Result Contents ScriptFault) → Reads text found
    → IfOk found (λ script. IsContents script.setup script.events) → Accepts text found
accepts text (Ok script) r given = (sound text script given.start.accounts r, λ other s. one-script text script other r (complete text other s))
accepts text (Err (fault.BadLine number)) r given = λ other s. bad-no-script text r.line r.behind r.before r.said other r.parts r.fit r.misfit (complete text other s)
accepts text (Err fault.Memory) r given = tt
