use Rattle.std.proofs.Common.{[], ◌∷◌, ◌++◌, refl, arith}
use Rattle.std.specs.Prelude.{codes}
use Rattle.abc_fields.specs.Bytes.{line_feed}
use Rattle.abc_fields.specs.Limits.{longest_tune}
use Rattle.abc_fields.specs.Tunes.{IsTextWithin}
use Rattle.abc_fields.proofs.texts.TuneText.shortest.Goals as goal

text_within : IsTextWithin longest_tune (codes "K:" ++ line_feed ∷ [])
text_within = record {
  tune_text = record {
    lines = codes "K:" ∷ [];
    whole = refl;
    each = (record { plain = refl; inside = refl }, tt);
    key = refl;
  };
  fits = omega (arith);
}

pub from_vec-requires : goal.from_vec-requires
from_vec-requires c = rw c.in_ok-from_slice.ensures.items text_within
