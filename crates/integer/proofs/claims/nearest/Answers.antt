use Rattle.integer.proofs.NearestLaws.{is_nearest, nearest_unique, none_left_less, not_above}
use Rattle.integer.proofs.claims.nearest.Goals as goal

pub returns : goal.returns
returns c =
    record {
      pair = is_nearest;
      only = nearest_unique;
      none_nearer = λ a d p h. none_left_less (is_nearest a d h) p h;
      halves_upward = λ a d p h. not_above (is_nearest a d h) p h;
    }
