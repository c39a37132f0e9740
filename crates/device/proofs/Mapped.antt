-- A layer that shows each content by a function of it: what is lawful, flushed or cut below is so above.
use Rattle.std.proofs.Common.{◌≡◌, ℕ, zero, suc, List, [], ◌∷◌, map, refl, ap, inl, inr, ⊎_elim}
use Rattle.device.specs.Meaning.{Content, Cell, Held, LawfulCell, flushed_cell, CutTo, CutCell}
use Rattle.device.specs.Mapped.{mapped_cell}

module _ (f : Content → Content) where
  pub mapped_flush : (cs : List Cell) → map (mapped_cell f) (map flushed_cell cs) ≡ map flushed_cell (map (mapped_cell f) cs)
  mapped_flush [] = refl
  mapped_flush (c ∷ cs) = ap (λ t. mapped_cell f (flushed_cell c) ∷ t) (mapped_flush cs)

  -- below the words of a block are v, and above w
  module _ (v w : ℕ) (keeps : (x : Content) → Held v x → Held w (f x)) where
    pub mapped_lawful : (c : Cell) → LawfulCell v c → LawfulCell w (mapped_cell f c)
    mapped_lawful c l = record {
      persisted = keeps c.persisted l.persisted;
      current = keeps c.current l.current;
      mark = l.mark;
      clean = λ e. ap f (l.clean e);
    }

    mapped_to : (n : ℕ) (c : Cell) (x : Content) → CutTo v n c x → CutTo w n (mapped_cell f c) (f x)
    mapped_to zero c x t = ap f t
    mapped_to (suc zero) c x t = ⊎_elim (λ e. inl (ap f e)) (λ e. inr (ap f e)) t
    mapped_to (suc (suc n)) c x t = keeps x t

    pub mapped_cut : (c d : Cell) → CutCell v c d → CutCell w (mapped_cell f c) (mapped_cell f d)
    mapped_cut c d k = record { mark = k.mark; equal = ap f k.equal; from = mapped_to c.mark c d.current k.from }
