-- What a client at rest goes on with, and a step of it.
use Rattle.std.specs.Prelude.{◌≡◌, ℕ, List, [], ◌∷◌, Option, Some, None}
use Rattle.login_client.specs.Conversation.{answered, factors, greeted, responded}
use Rattle.packet_frame.specs.Packets.{id_after}
use Rattle.login_client.specs.Hearing.{IsHeard}
use Rattle.login_client.specs.Talk.{Talk, Hears, Says, Over, hearing}
use Rattle.login_client.specs.declared.ends.ClientAct.{ClientAct}
use Rattle.login_client.specs.declared.ends.ClientAct.TheVariants.{Send, Done}
use Rattle.login_client.specs.declared.hearing.Heard.{Heard}
use Rattle.login_client.specs.declared.claims.Claim.{Claim}
use Rattle.login_client.specs.declared.ends.LoginEnd.{LoginEnd}
use Rattle.login_client.specs.declared.phases.Next.{Next}
use Rattle.login_client.specs.declared.phases.Next.TheVariants.{Second, Third, Neither}
use Rattle.login_client.specs.declared.phases.Phase.{Phase}
use Rattle.login_client.specs.declared.phases.Phase.TheVariants.{Connected, Responded, Answered, Factors, Ended}
use Rattle.login_client.specs.declared.phases.Step.{Step}

-- the secrets of the factors that may still be asked for
abbrev pub secrets_from : Claim → Next → List (Option (List ℕ))
secrets_from claim Second = claim.secrets.second ∷ claim.secrets.third ∷ []
secrets_from claim Third = claim.secrets.third ∷ []
secrets_from claim Neither = []

-- the rest of the talk
abbrev pub talk_at : Claim → Phase → Talk
talk_at claim Connected = Hears (greeted claim)
talk_at claim (Responded method) = Hears (responded claim method)
talk_at claim (Answered method) = Hears (answered claim method)
talk_at claim (Factors next) = Hears (factors claim (secrets_from claim next))
talk_at claim (Ended end) = Over end

-- a step that says this, if anything, and then is at rest here
abbrev pub StandsBy : Option (List ℕ) → Talk → Talk → Type 0
StandsBy None rest talk = rest ≡ talk
StandsBy (Some said) (Hears k) talk = Says said k ≡ talk
StandsBy (Some said) (Says more k) talk = ⊥
StandsBy (Some said) (Over end) talk = ⊥

abbrev pub Stands : Claim → Step → Talk → Type 0
Stands claim step talk = StandsBy step.says (talk_at claim step.phase) talk

-- how a login ended, if it did
abbrev pub end_of : Phase → Option LoginEnd
end_of Connected = None
end_of (Responded method) = None
end_of (Answered method) = None
end_of (Factors next) = None
end_of (Ended end) = Some end

abbrev pub done_if : Option LoginEnd → Option ClientAct
done_if None = None
done_if (Some end) = Some (Done end)

-- what a client does that says this, if anything, and then stands at a phase, behind a packet with some last id
abbrev pub act_of : Option (List ℕ) → Phase → ℕ → Option ClientAct
act_of (Some said) phase last = Some (Send (id_after last) said)
act_of None phase last = done_if (end_of phase)

-- a step at a payload, by what the payload says
pub record StepsAt (claim : Claim) (talk : Talk) (payload : List ℕ) (step : Step) : Type 0 where
  pub heard : Heard
  pub is_heard : IsHeard payload heard
  pub stands : Stands claim step (hearing talk heard)
