-- Worked figures, as equations on the definitions that contracts cite.
use Rattle.std.specs.Prelude.{◌≡◌, ℕ, true, false, List, [], ◌∷◌, ℤ, pos, negsuc, Some, None, Ok, Err, Option}
use Rattle.table.specs.declared.row.RowFault.TheVariants.{Speed, Angle}
use Rattle.table.specs.Rows.{checked_row, payload_of, fault_number}
use Rattle.table.specs.Angles.{angle_at}
use Rattle.page.specs.Block.{flat, value_kind}
use Rattle.page.specs.Slot.{Table, if_stands}
use Rattle.check_layer.specs.Checked.{check_of}
use Rattle.model.specs.declared.refusal.Refusal.TheVariants.{Absent, Taken, NoVolume}
use Rattle.model.specs.Numbers.{number}
use Rattle.model.specs.Plain.{Ask.clone, early}
use Rattle.model.specs.Walk.{Fault}
use Rattle.model.specs.World.{latest, walked}

-- rows 400 → −100 and 1200 → 250
abbrev pub two : List (ℕ × ℤ)
two = (400, negsuc 99) ∷ (1200, pos 250) ∷ []

-- rows 0 → 0 and 2 → −3
abbrev pub odd : List (ℕ × ℤ)
odd = (0, pos 0) ∷ (2, negsuc 2) ∷ []

pub record Figures : Type 0 where
  -- the row 400, −100 in a leaf
  pub row_words : flat (value_kind 0) ((400, payload_of (negsuc 99)) ∷ []) ≡ 0x30000190 ∷ 0x400022C4 ∷ []
  -- angles below, between and above rows
  pub below : angle_at 399 two ≡ Some (negsuc 99)
  pub between : angle_at 800 two ≡ Some (pos 75)
  pub above : angle_at 1201 two ≡ Some (pos 250)
  -- −1.5 is cut toward zero
  pub cut_toward_zero : angle_at 1 odd ≡ Some (negsuc 0)
  -- where the ranges end
  pub last_speed : checked_row 9999 (negsuc 8999) ≡ Ok (9999, negsuc 8999)
  pub past_speed : checked_row 10000 (negsuc 8999) ≡ Err Speed
  pub past_angle : checked_row 9999 (negsuc 9000) ≡ Err Angle
  pub speed_number : fault_number Speed ≡ 6
  pub angle_number : fault_number Angle ≡ 7
  -- the check of the word 0, and of the words 1, 2
  pub check_zero : check_of (0 ∷ []) ≡ 32
  pub check_two : check_of (1 ∷ 2 ∷ []) ≡ 1058
  -- clone 5 to 5: taken if it exists, else absent
  pub clone_taken : early (λ n. true) (clone 5 5) ≡ Some Taken
  pub clone_absent : early (λ n. false) (clone 5 5) ≡ Some Absent
  pub taken_number : number Taken ≡ 9
  pub absent_number : number Absent ≡ 8
  -- slots of generations 4, 5: 5 is used; 6, 5: 6
  pub slots_4_5 : (t u : Table) → latest (Some (4, t)) (Some (5, u)) ≡ Some (5, u)
  pub slots_6_5 : (t u : Table) → latest (Some (6, t)) (Some (5, u)) ≡ Some (6, t)
  -- slots of generations 4, 7: none is used; 5 in block 0: no slot
  pub slots_4_7_none : (t u : Table) → latest (Some (4, t)) (Some (7, u)) ≡ None
  pub slot_5_in_block_0 : (n : ℕ) (t : Table) → if_stands n 0 (Some (5, t)) ≡ None
  -- so slots of generations 4, 7 or 5, 4: refused, whatever the walk would find
  pub slots_4_7 : (f : Table → Option (ℕ × Fault)) (t u : Table) → walked f (latest (Some (4, t)) (Some (7, u))) ≡ Err NoVolume
  pub slots_5_4 : (f : Table → Option (ℕ × Fault)) (n : ℕ) (t u : Table) → walked f (latest (if_stands n 0 (Some (5, t))) (if_stands n 1 (Some (4, u)))) ≡ Err NoVolume
  pub no_volume_number : number NoVolume ≡ 13
