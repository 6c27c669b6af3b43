use Rattle.std.proofs.Common.{◌≡◌, ◌-◌, sym, ap, ◌∙◌, subst, length, take, drop, List, ◌∷◌, ℕ, Bool}
use Rattle.std.specs.Prelude.{string_bytes}
use Rattle.loginctl.specs.LoginWords.{Becomes, choice_of, chosen_by, named, with_value}
use Rattle.loginctl.proofs.Choosing.{flag-kept, split-words, value-kept}
use Rattle.loginctl.proofs.login_words.read_chosen.Goals as goal

pub options-preserved-then-is_flag : goal.options-preserved-then-is_flag
options-preserved-then-is_flag c =
    let words = split-words c.options.rest.now c.word-item.result c.in-len1-up.len_at_least c.word-item.is in
    let option-is : c.named-option.result ≡ named (string_bytes c.word-item.result) = c.named-option.ensures ∙ ap (λ (w : List ℕ). named w) c.as_bytes.ensures.value in
    sym (flag-kept (choice_of c.options.chosen) (choice_of c.add_flag-kept.new.self) (string_bytes c.word-item.result) _ c.named-option.result option-is (sym c.is_flag.ensures ∙ c.if-is_flag.true) c.if-not-kept.ensures)
    ∙ sym (ap (λ (l : List (List ℕ)). chosen_by (choice_of c.options.chosen) l) words) ∙ c.options.invariant

pub options-preserved : goal.options-preserved
options-preserved c =
    let behind = take (length c.options.rest.now - 1) (drop 1 c.options.rest.now) in
    let words = split-words c.options.rest.now c.word-item.result c.in-len1-up.len_at_least c.word-item.is in
    let values = split-words behind c.value-item.result c.in-len1-up-behind.len_at_least c.value-item.is in
    let all = words ∙ ap (λ (l : List (List ℕ)). string_bytes c.word-item.result ∷ l) values in
    let option-is : c.named-option.result ≡ named (string_bytes c.word-item.result) = c.named-option.ensures ∙ ap (λ (w : List ℕ). named w) c.as_bytes.ensures.value in
    let kept = subst (λ (b : Bool). Becomes b (with_value c.named-option.result (string_bytes c.value-item.result) (choice_of c.options.chosen)) (choice_of c.add_value.new.self))
    c.if-not-kept-2.false c.in_ok-kept-in-len1-up-behind.ensures in
    sym (value-kept (choice_of c.options.chosen) (choice_of c.add_value.new.self) (string_bytes c.word-item.result) (string_bytes c.value-item.result) _ c.named-option.result option-is
    (sym c.is_flag.ensures ∙ c.if-is_flag.false) kept)
    ∙ sym (ap (λ (l : List (List ℕ)). chosen_by (choice_of c.options.chosen) l) all) ∙ c.options.invariant
