-- A table with one product written. Assumes nothing.
use Rattle.std.proofs.Common.{◌≡◌, ℕ, ◌<◌, ◌≤◌, true, false, length, set, sym, ap, ◌∙◌, subst, ⊎_elim}
use Rattle.std.proofs.lemmas.List.{get_or-set_same, get_or-set_other}
use Rattle.std.proofs.lemmas.Bool.{cases_eq}
use Rattle.terms.specs.Ranges.{highest_price}
use Rattle.listing.specs.Entries.{unlisted, at_fault}
use Rattle.listing.specs.Product.{fresh, product_at, entries, frenetic_fits}
use Rattle.listing.specs.Questions.{product_in}
use Rattle.listing.specs.declared.product.Product.{Product}
use Rattle.listing.specs.declared.products.Products.{Products}
use Rattle.listing.proofs.Faults.{fault_same}

module _ (ps : Products) (n : ℕ) (p : Product) (there : n < length ps.rows) where
  -- what holds of it and of each other product
  written : (P : Product → Type 0) (k : ℕ) → P p → P (product_in ps k) → P (product_at (set ps.rows n p) k)
  written P k here before =
      ⊎_elim
      (λ e. subst P (sym (get_or-set_same ps.rows n p (fresh unlisted) there) ∙ ap (product_at (set ps.rows n p)) (sym e)) here)
      (λ e. subst P (sym (get_or-set_other ps.rows n k p (fresh unlisted) e)) before)
      (cases_eq k n)

  pub written_priced : p.reference ≤ highest_price → (k : ℕ) → k < ps.count → (product_at (set ps.rows n p) k).reference ≤ highest_price
  written_priced here k h = written (λ x. x.reference ≤ highest_price) k here (ps.priced k h)

  pub written_widened : frenetic_fits p.listed.daily p.frenetic ≡ true → (k : ℕ) → k < ps.count → frenetic_fits (product_at (set ps.rows n p) k).listed.daily (product_at (set ps.rows n p) k).frenetic ≡ true
  written_widened here k h = written (λ x. frenetic_fits x.listed.daily x.frenetic ≡ true) k here (ps.widened k h)

  -- listed as before
  written_entries : p.listed ≡ (product_in ps n).listed → (k : ℕ) → entries (set ps.rows n p) k ≡ entries ps.rows k
  written_entries e k =
      ⊎_elim
      (λ s. ap (entries (set ps.rows n p)) s ∙ ap (λ (x : Product). x.listed) (get_or-set_same ps.rows n p (fresh unlisted) there) ∙ e ∙ ap (entries ps.rows) (sym s))
      (λ s. ap (λ (x : Product). x.listed) (get_or-set_other ps.rows n k p (fresh unlisted) s))
      (cases_eq k n)

  pub written_sound : p.listed ≡ (product_in ps n).listed → (k : ℕ) → k < ps.count → at_fault (entries (set ps.rows n p)) k ≡ false
  written_sound e k h =
      fault_same (entries (set ps.rows n p)) (entries ps.rows) k (λ j l. written_entries e j) (written_entries e k) ∙ ps.sound k h
