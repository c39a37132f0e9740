use Rattle.std.proofs.Common.{refl}
use Rattle.figures.proofs.figures_hold.Goals as goal

pub returns : goal.returns
returns c = record {
  row_words = refl;
  below = refl;
  between = refl;
  above = refl;
  cut_toward_zero = refl;
  last_speed = refl;
  past_speed = refl;
  past_angle = refl;
  speed_number = refl;
  angle_number = refl;
  check_zero = refl;
  check_two = refl;
  clone_taken = refl;
  clone_absent = refl;
  taken_number = refl;
  absent_number = refl;
  slots_4_5 = λ t u. refl;
  slots_6_5 = λ t u. refl;
  slots_4_7_none = λ t u. refl;
  slot_5_in_block_0 = λ n t. refl;
  slots_4_7 = λ f t u. refl;
  slots_5_4 = λ f n t u. refl;
  no_volume_number = refl;
}
