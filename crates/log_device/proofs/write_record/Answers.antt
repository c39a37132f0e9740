use Rattle.std.proofs.Common.{◌≡◌, ℕ, ◌+◌, ◌-◌, List, [], ◌∷◌, ◌++◌, length, set, ap, ◌∙◌, arith}
use borrow.Rule.Slice.PartMut.{put_mid}
use Rattle.std.proofs.lemmas.List.{append-nil, drop_all}
use Rattle.log_device.proofs.write_record.Goals as goal

made : (to ws ys : List ℕ) (word : ℕ) → length to ≡ length ws + 1 → ys ≡ ws → put_mid 1 (length (set to 0 word) - 1) (set to 0 word) ys ≡ word ∷ ws
made [] ws ys word e p = absurd (omega arith)
made (x ∷ xs) ws ys word e p =
    ap (λ t. word ∷ (ys ++ t)) (drop_all (length (word ∷ xs) - 1) xs (omega arith)) ∙ ap (λ t. word ∷ t) (append-nil ys ∙ p)

pub returns : goal.returns
returns c = made c.args.to.now c.args.words.now c.copy_from_slice.new.self c.args.word c.requires c.copy_from_slice.ensures.after
