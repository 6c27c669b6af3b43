use Rattle.std.proofs.Common.{List, ℕ, Contains, sym, ◌∙◌, subst}
use Rattle.login_client.proofs.Responses.{name_whole, short_enough}
use Rattle.login_client.proofs.claims.Claim.say_response.Goals as goal

pub write-requires : goal.write-requires
write-requires c = record {
  flags = c.requires.flags.needed;
  user = subst (λ (t : List ℕ). Contains t 0 → ⊥) (sym (c.in_ok-copy.ensures ∙ c.as_slice.ensures)) c.requires.user;
  auth = short_enough _ _ c.in_ok-answer.ensures.short;
  database = sym c.requires.flags.no_database;
  database_text = tt;
  plugin = subst (λ (t : List ℕ). Contains t 0 → ⊥) (sym (c.in_ok-copy-2.ensures ∙ c.name_of.ensures)) (name_whole c.args.method);
  attributes = sym c.requires.flags.no_attributes;
}
