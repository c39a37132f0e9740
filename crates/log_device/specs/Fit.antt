-- What the log keeps makes its meaning lawful.
use Rattle.std.specs.Prelude.{◌≡◌, ℕ, zero, suc, ◌+◌, ◌^◌, ◌<◌, Bool, true, false, cond, List, [], ◌∷◌, ◌++◌, length, take, drop, replicate, ◌==◌, refl}
use Rattle.std.proofs.Common.{sym, ap, ◌∙◌, subst, arith}
use Rattle.std.specs.List.{AllByRecursion}
use Rattle.std.proofs.lemmas.List.{length-take-le, length-drop, take-append-drop, length-replicate}
use Rattle.std.proofs.ByRecursion.{All-take, All-drop}
use Rattle.std.proofs.lemmas.List.FromFn.{length-map-range_with_len}
use Rattle.device.specs.Meaning.{Limits, LawfulCell, Lawful, Words, words}
use Rattle.device.specs.Cuts.{Op}
use Rattle.device.proofs.Tables.{all_table, rows}
use Rattle.log_device.specs.Log.{Record, last_of, count_of, log_cell, record_at, records, place_of, flushed_in, log_of, Sound, Image, imaged, replay_image}

words_if : (t : Bool) (w : ℕ) (x y : List ℕ) → Words w x → Words w y → Words w (cond t x y)
words_if true w x y h k = h
words_if false w x y h k = k

last_words : (w b : ℕ) (rs : List Record) (d : List ℕ) → AllByRecursion (λ r. Words w r.1) rs → Words w d → Words w (last_of rs b d)
last_words w b [] d h k = k
last_words w b (r ∷ rs) d h k = last_words w b rs (cond (r.0 == b) r.1 d) h.1 (words_if (r.0 == b) w r.1 d h.0 k)

pub last_append : (rs qs : List Record) (b : ℕ) (d : List ℕ) → last_of (rs ++ qs) b d ≡ last_of qs b (last_of rs b d)
last_append [] qs b d = refl
last_append (r ∷ rs) qs b d = last_append rs qs b (cond (r.0 == b) r.1 d)

last_none : (rs : List Record) (b : ℕ) (d : List ℕ) → count_of rs b ≡ 0 → last_of rs b d ≡ d
last_none [] b d h = refl
last_none (r ∷ rs) b d h = step (λ e. last_none rs b d e) (r.0 == b) h
  where
    step : (count_of rs b ≡ 0 → last_of rs b d ≡ d) → (t : Bool) → cond t 1 0 + count_of rs b ≡ 0 → last_of rs b (cond t r.1 d) ≡ d
    step again true e = absurd (omega arith)
    step again false e = again (omega arith)

zeros : (w : ℕ) → Words w (replicate w 0)
zeros w = (length-replicate {A = ℕ} w 0, all_zero w)
  where
    all_zero : (n : ℕ) → AllByRecursion (λ x. x < 2 ^ 32) (replicate n 0)
    all_zero zero = tt
    all_zero (suc n) = (omega arith, all_zero n)

module _ (img : List ℕ) (n w k : ℕ) (s : Sound img n w k) where
  record_words : AllByRecursion (λ r. Words w r.1) (records w img k)
  record_words = all_table (λ r. Words w r.1) (record_at w img) k (λ i h. (
    length-take-le w (drop (place_of w i + 1) img) (simp length-drop (omega (arith, rows i k (w + 1) h, s.room))),
    All-take _ w _ (All-drop _ (place_of w i + 1) img s.fits),
  ))

  pub cell_fit : (b : ℕ) → LawfulCell w (log_cell w (records w img k) (flushed_in img) b)
  cell_fit b =
      let rs = records w img k in
      let f = flushed_in img in
      record {
        persisted = last_words w b (take f rs) (replicate w 0) (All-take _ f rs record_words) (zeros w);
        current = last_words w b rs (replicate w 0) record_words (zeros w);
        mark = omega arith;
        clean = λ e. ap words (sym (ap (λ qs. last_of qs b (replicate w 0)) (sym (take-append-drop f rs))
            ∙ last_append (take f rs) (drop f rs) b (replicate w 0) ∙ last_none (drop f rs) b _ (omega arith)));
      }

  pub fit : Lawful (log_of img n w k)
  fit =
      let long : length (log_of img n w k).cells ≡ n = length-map-range_with_len (log_cell w (records w img k) (flushed_in img)) 0 n in
      record {
        limits = subst (λ j. Limits j w) (sym long) s.limits;
        cells = all_table (LawfulCell w) (log_cell w (records w img k) (flushed_in img)) n (λ b h. cell_fit b);
        left = omega arith;
        left_mark = omega arith;
      }

-- lists of calls follow one another
pub image_goes_on : (os ps : List Op) (i j k : Image) → j ≡ replay_image os i → k ≡ replay_image ps j → k ≡ replay_image (os ++ ps) i
image_goes_on [] ps i j k e f = f ∙ ap (replay_image ps) e
image_goes_on (o ∷ os) ps i j k e f = image_goes_on os ps (imaged o i) j k e f
