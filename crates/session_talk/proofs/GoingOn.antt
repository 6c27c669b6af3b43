-- What is owed goes on, for packets and over bytes.
use Rattle.std.proofs.Common.{◌≡◌, refl, ap, sym, Bool, true, false, if◌then◌else◌, ◌∷◌, ◌++◌}
use Rattle.packet_frame.specs.Packets.{id_after}
use Rattle.packet_stream.specs.Sent.{id_behind}
use Rattle.interaction.specs.Talk.{Got, Says, Hears, Asks}
use Rattle.session_talk.specs.Laws.{OwedGoesOn, StaleChangesNothing, StaleStatementsChangeNothing}
use Rattle.session_talk.specs.Owed.{Owed, after_all_sent, after_sent, owed, waits}
use Rattle.session_talk.specs.Talk.{on_checked, on_locked, on_look, on_prepared, on_ran, on_ran_locked, on_settled}
use Rattle.session_talk.specs.Turns.{takes}

pub owed_goes_on : OwedGoesOn
unfolding owed
owed_goes_on next (Says payload t) ps qs os us =
    ap (after_sent (record { first = next; payload = payload })) (owed_goes_on (id_behind next payload) t ps qs os us)
owed_goes_on next (Hears anew k) (p ∷ ps) qs os us = owed_goes_on (id_after p.last) (k (Got p.payload)) ps qs os us
owed_goes_on next (Asks q k) ps qs (given ∷ os) us = by_kind (owed_goes_on next (k given) ps qs os us) (takes q given) refl
  where
    before : Bool → Owed
    before b = if b then owed next (k given) ps os else waits next (Asks q k) ps (given ∷ os)

    longer : Bool → Owed
    longer b = if b then owed next (k given) (ps ++ qs) (os ++ us) else waits next (Asks q k) (ps ++ qs) (given ∷ (os ++ us))

    IsOn : Bool → Type 0
    IsOn b = longer b ≡ after_all_sent (before b).sent (owed (before b).next (before b).at ((before b).unread ++ qs) ((before b).unused ++ us))

    by_kind : IsOn true → (b : Bool) → takes q given ≡ b → IsOn b
    by_kind again true e = again
    by_kind again false e = sym (ap longer e)
owed_goes_on next t ps qs os us = refl

pub stale_changes_nothing : StaleChangesNothing
unfolding owed on_look on_checked on_settled on_locked
stale_changes_nothing = record {
  once = λ next a look again evidences back checked reply packets owns. refl;
  twice = λ next a look again evidences back later checked reply packets owns. refl;
}

pub stale_statements_change_nothing : StaleStatementsChangeNothing
unfolding owed on_look on_prepared on_ran on_ran_locked
stale_statements_change_nothing = record {
  once = λ next goes_on opened prepared anew back again reply packets owns. refl;
  twice = λ next goes_on opened prepared anew back later again reply packets owns. refl;
}
