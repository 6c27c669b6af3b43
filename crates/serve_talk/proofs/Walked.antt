-- Turns one after another are a path.
use Rattle.std.proofs.Common.{◌≡◌, refl, sym, ap, ◌∙◌, subst, ℕ, ◌+◌, ◌*◌, ◌≤◌, List, [], ◌∷◌, ◌++◌, length, Option, append_assoc, append-nil, arith}
use Rattle.lg_outside.specs.Traffic.{Traffic}
use Rattle.account_history.specs.declared.entries.Entry.{Entry}
use Rattle.link_packets.specs.Moving.{Moved}
use Rattle.link_packets.proofs.Moves.{moved-more}
use Rattle.packet_stream.specs.Packing.{packets_text}
use Rattle.packet_stream.specs.Sent.{Sent}
use Rattle.packet_stream.specs.Streams.{Stream}
use Rattle.packet_stream.proofs.Packed.{packets_text-append}
use Rattle.session_talk.specs.Given.{Given, Reads}
use Rattle.session_talk.specs.Runs.{EachAnswers, Standing, packets_in, sent_on, spoken, stands_after, stands_on}
use Rattle.session_talk.specs.Transcript.{Peer}
use Rattle.session_talk.specs.Turns.{wanted_by}
use Rattle.session_talk.specs.declared.inputs.Input.{Input}
use Rattle.serve_talk.specs.Paths.{Anything, Behind, Is, Leads, Loose, Path, Point, Rested, Turned, Wrote, ahead, nothing_loose, standing}
use Rattle.serve_talk.specs.Sides.{Grew, nonces_in}
use Rattle.serve_talk.proofs.Grown.{grew_more, nonces_first, packets_first}

-- all that was due was written
pub wrote_all : (p q : Point) (got due : List ℕ) → Wrote p q got due nothing_loose → Moved p.link q.link got due
wrote_all p q got due w =
    subst (λ (l : List ℕ). Moved p.link q.link l due) (append-nil got)
    (subst (λ (text : List ℕ). Moved p.link q.link (got ++ []) text) (sym (w.due_is ∙ append-nil w.text)) w.moved)

wrote_more : (p q z : Point) (some more due later : List ℕ) (loose : Loose) → Wrote p q some due nothing_loose → Wrote q z more later loose
    → Wrote p z (some ++ more) (due ++ later) loose
wrote_more p q z some more due later loose first second = record {
  text = due ++ second.text;
  moved = subst (λ (l : List ℕ). Moved p.link z.link l (due ++ second.text)) (sym (append_assoc some more loose.over))
      (moved-more p.link q.link z.link some due (more ++ loose.over) second.text (wrote_all p q some due first) second.moved);
  due_is = ap (λ (l : List ℕ). due ++ l) second.due_is ∙ sym (append_assoc due second.text loose.unwritten);
}

wrote_due : (p q : Point) (got due same : List ℕ) (loose : Loose) → due ≡ same → Wrote p q got due loose → Wrote p q got same loose
wrote_due p q got due same loose e w = record { text = w.text; moved = w.moved; due_is = sym e ∙ w.due_is }

-- nothing was given
pub path_rest : (p z : Point) (loose : Loose) → Rested p z loose → Path Anything p z loose
path_rest p z loose r = record {
  inputs = [];
  answers = tt;
  stands = r.same;
  got = r.got;
  entries = [];
  given = λ peer rest is. (refl, r.held_is rest);
  wrote = record { text = []; moved = r.moved; due_is = sym r.none_due };
  grew = r.grew;
  spent = omega (arith, r.spent);
}

-- the last turn
pub path_last : (behind : Behind) (p z : Point) (given : Input) (loose : Loose) → Turned behind p given z loose → Path behind p z loose
path_last behind p z given loose t = record {
  inputs = given ∷ [];
  answers = (t.live, t.answers, t.fits, tt);
  stands = t.stands;
  got = t.got;
  entries = t.added;
  given = λ peer rest is. (ahead z rest, t.added, [], t.reads peer rest is, t.adds, sym (append-nil t.added), (refl, refl));
  wrote = wrote_due p z t.got (packets_text (sent_on (standing p) given)) _ loose
      (ap (λ (l : List Sent). packets_text l) (sym (append-nil (sent_on (standing p) given)))) t.wrote;
  grew = t.grew;
  spent = t.spent;
}

-- one turn first
pub path_first : (behind : Behind) (p q z : Point) (given : Input) (loose : Loose) → Turned Anything p given q nothing_loose → Path behind q z loose → Path behind p z loose
path_first behind p q z given loose t path = record {
  inputs = given ∷ path.inputs;
  answers = (t.live, t.answers, t.fits, subst (λ (s : Standing). EachAnswers s path.inputs) t.stands path.answers);
  stands = path.stands ∙ ap (λ (s : Standing). stands_after s path.inputs) t.stands;
  got = t.got ++ path.got;
  entries = t.added ++ path.entries;
  given = λ peer rest is. (
    ahead q (path.got ++ rest),
    t.added,
    path.entries,
    subst (λ (l : List ℕ). Reads peer (wanted_by p.next p.at) (ahead p l) given (ahead q (path.got ++ rest))) (sym (append_assoc t.got path.got rest))
        (t.reads peer (path.got ++ rest) tt),
    t.adds,
    refl,
    subst (λ (s : Standing). Given peer s (ahead q (path.got ++ rest)) path.entries path.inputs (ahead z rest)) t.stands (path.given peer rest is),
  );
  wrote = wrote_due p z (t.got ++ path.got) _ _ loose
      (ap (λ (s : Standing). packets_text (sent_on (standing p) given) ++ packets_text (spoken s path.inputs)) t.stands
      ∙ sym (packets_text-append (sent_on (standing p) given) (spoken (stands_on (standing p) given) path.inputs)))
      (wrote_more p q z t.got path.got (packets_text (sent_on (standing p) given)) (packets_text (spoken (standing q) path.inputs)) loose t.wrote path.wrote);
  grew = subst (λ (l : List (List ℕ)). Grew p.side z.side (t.added ++ path.entries) l) (sym (nonces_first given path.inputs))
      (grew_more p.side q.side z.side t.added path.entries (nonces_in (given ∷ [])) (nonces_in path.inputs) t.grew path.grew);
  spent = omega (arith, t.spent, path.spent, packets_first given path.inputs);
}

pub leads_none : (p : Point) → Leads p p
leads_none p behind z loose path = path

pub leads_more : (p q r : Point) (given : Input) → Leads p q → Turned Anything q given r nothing_loose → Leads p r
leads_more p q r given leads turned behind z loose path = leads behind z loose (path_first behind q r z given loose turned path)
