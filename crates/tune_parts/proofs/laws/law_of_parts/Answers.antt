use Rattle.tune_parts.proofs.PartLemmas.{put_parts, free_parts, root_parts, move_part, has_part, are_parts, held_parts}
use Rattle.tune_parts.proofs.PartLemmas.{no_parts, claim_part, can_claim, open_parts}
use Rattle.tune_parts.proofs.laws.law_of_parts.Goals as goal

pub returns : goal.returns
returns c = record {
  put = put_parts;
  freed = free_parts;
  root = root_parts;
  moved = move_part;
  has = has_part;
  parts = are_parts;
  held = held_parts;
  unclaimed = no_parts;
  claimed = claim_part;
  claimable = can_claim;
  opened = open_parts;
}
