use Rattle.std.proofs.Common.{refl, ◌∙◌}
use Rattle.sha256_crypt.specs.Crypt.{encoded}
use Rattle.sha256_crypt.proofs.encoding.encoded.Goals as goal

pub returns : goal.returns
unfolding encoded
returns c =
    rw (
      c.copy_from_slice.ensures.after ∙ c.group.ensures,
      c.copy_from_slice-2.ensures.after ∙ c.group-2.ensures,
      c.copy_from_slice-3.ensures.after ∙ c.group-3.ensures,
      c.copy_from_slice-4.ensures.after ∙ c.group-4.ensures,
      c.copy_from_slice-5.ensures.after ∙ c.group-5.ensures,
      c.copy_from_slice-6.ensures.after ∙ c.group-6.ensures,
      c.copy_from_slice-7.ensures.after ∙ c.group-7.ensures,
      c.copy_from_slice-8.ensures.after ∙ c.group-8.ensures,
      c.copy_from_slice-9.ensures.after ∙ c.group-9.ensures,
      c.copy_from_slice-10.ensures.after ∙ c.group-10.ensures,
      c.copy_from_slice-11.ensures.after,
      c.characters.ensures,
      c.from.ensures,
      c.from-2.ensures,
    )
    refl
