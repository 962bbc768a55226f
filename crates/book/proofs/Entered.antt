-- The checks of an entry, one after another. Assumes nothing.
use Rattle.std.proofs.Common.{◌≡◌, ℕ, zero, suc, ◌<◌, ◌≤◌, Bool, true, false, not, ltb, List, [], ◌∷◌, length, get_or, Some, None, All, Option, refl, ap, ◌∙◌, arith}
use Rattle.std.proofs.lemmas.List.Elements.{All-head, All-tail}
use Rattle.std.proofs.lemmas.Bool.{or_right, lt-ltb, le-ltb}
use Rattle.orders.proofs.Heads.{length_counted, get_or_counted}
use Rattle.orders.specs.Queue.{counted}
use Rattle.orders.specs.Questions.{stands}
use Rattle.orders.specs.Rows.{free}
use Rattle.orders.specs.declared.row.OrderRow.{OrderRow}
use Rattle.terms.specs.Checks.{unless, earliest}
use Rattle.terms.specs.declared.refusal.Refusal.{Refusal}
use Rattle.terms.specs.declared.refusal.Refusal.TheVariants.{NotListed, TableFull, TapeFull, Exhausted}
use Rattle.terms.specs.Stamps.{last_stamp}
use Rattle.book.specs.Entries.{any_free}

free_some : (products : ℕ) (rows : List OrderRow) (i : ℕ) → i < length rows → stands products (get_or rows i free) ≡ false → any_free products rows ≡ true
free_some products [] i l h = absurd (let z : ⊥ = omega arith in z)
free_some products (r ∷ rows) zero l h = rw h
free_some products (r ∷ rows) (suc i) l h = or_right (not (stands products r)) (any_free products rows) (free_some products rows i (omega arith) h)

pub place_free : (products : ℕ) (table : List OrderRow) (i : ℕ) → i < length (counted table) → stands products (get_or table i free) ≡ false → any_free products (counted table) ≡ true
place_free products table i l h =
    free_some products (counted table) i l (ap (stands products) (get_or_counted table i free (omega (arith, length_counted table))) ∙ h)

pub none_free : (products : ℕ) (rows : List OrderRow) → All (λ r. stands products r ≡ true) rows → any_free products rows ≡ false
none_free products [] a = refl
none_free products (r ∷ rows) a = rw (All-head (λ r. stands products r ≡ true) r rows a) (none_free products rows (All-tail (λ r. stands products r ≡ true) r rows a))

-- the checks in a row, by what is known of each
module _ (product products stamp : ℕ) (table : List OrderRow) (fits : Bool) (trades : ℕ) where
  abbrev pub checked : Option Refusal
  checked =
      earliest
      (unless (ltb product products) (NotListed product)
      ∷ unless (any_free products (counted table)) (TableFull (length (counted table)))
      ∷ unless fits (TapeFull trades)
      ∷ unless (ltb stamp last_stamp) Exhausted ∷ [])

  pub full_table : product < products → any_free products (counted table) ≡ false → checked ≡ Some (TableFull (length (counted table)))
  full_table a b = rw (lt-ltb product products a, b)

  pub full_tape : product < products → any_free products (counted table) ≡ true → fits ≡ false → checked ≡ Some (TapeFull trades)
  full_tape a b c = rw (lt-ltb product products a, b, c)

  pub no_stamp : product < products → any_free products (counted table) ≡ true → fits ≡ true → last_stamp ≤ stamp → checked ≡ Some Exhausted
  no_stamp a b c d = rw (lt-ltb product products a, b, c, le-ltb stamp last_stamp d)

  pub none_fails : product < products → any_free products (counted table) ≡ true → fits ≡ true → stamp < last_stamp → checked ≡ None
  none_fails a b c d = rw (lt-ltb product products a, b, c, lt-ltb stamp last_stamp d)
