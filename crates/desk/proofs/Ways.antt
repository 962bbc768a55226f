-- Which way an order goes at the desk. Assumes nothing.
use Rattle.std.proofs.Common.{◌≡◌, ℕ, Bool, List, Some, None, Ok, Err, Option, Result, sym, refl, subst, arith}
use Rattle.book.specs.Entries.{EntersFrom}
use Rattle.book.specs.declared.incoming.Incoming.{Incoming}
use Rattle.book.specs.declared.outcome.Receipt.{Receipt}
use Rattle.console.specs.declared.command.Order.{Order}
use Rattle.limits.specs.declared.range.Range.{Range}
use Rattle.orders.specs.declared.row.OrderRow.{OrderRow}
use Rattle.tape.specs.declared.row.TradeRow.{TradeRow}
use Rattle.terms.specs.Checks.{answered, earliest}
use Rattle.terms.specs.declared.refusal.Refusal.{Refusal}
use Rattle.desk.specs.Desks.{product_or}
use Rattle.desk.specs.Entries.{desk_checks, TurnedDown, ComesToBook, ByChecks, DeskEnters}
use Rattle.desk.specs.declared.desk.Desk.{Desk}
use Rattle.desk.specs.declared.desk.Product.{Product}

pub listed_is : (o : Option Product) (p : Product) → Ok p ≡ product_or o → o ≡ Some p
listed_is None p e = absurd (let z : ◌≡◌ {A = ℕ} 0 1 = cc in let y : ⊥ = omega arith in y)
listed_is (Some q) p e = cc

pub fails_with : {A : Type 0} (o : Option Refusal) (v : A) (f : Refusal) → Err f ≡ answered o v → o ≡ Some f
fails_with None v f e = absurd (let z : ◌≡◌ {A = ℕ} 0 1 = cc in let y : ⊥ = omega arith in y)
fails_with (Some g) v f e = cc

pub passes_with : {A : Type 0} (o : Option Refusal) (v w : A) → Ok w ≡ answered o v → (o ≡ None) × (w ≡ v)
passes_with None v w e = (refl, cc)
passes_with (Some g) v w e = absurd (let z : ◌≡◌ {A = ℕ} 0 1 = cc in let y : ⊥ = omega arith in y)

module _ {T : Type 0} (records : T → List TradeRow) (space : T → ℕ) (o : Option Product) (p : Product) (order : Order) (desk : Desk) (table : List OrderRow) (tape : T) (r : Result (Receipt Bool) Refusal) (desk' : Desk) (table' : List OrderRow) (tape' : T) (is : o ≡ Some p) where
  at_product : ByChecks records space (earliest (desk_checks p desk.halted table order)) p order desk table tape r desk' table' tape' → DeskEnters records space o order desk table tape r desk' table' tape'
  at_product h = subst (λ (x : Option Product). DeskEnters records space x order desk table tape r desk' table' tape') (sym is) h

  pub turned_down : (f : Refusal) → earliest (desk_checks p desk.halted table order) ≡ Some f → TurnedDown records space f desk table tape r desk' table' tape' → DeskEnters records space o order desk table tape r desk' table' tape'
  turned_down f e h = at_product (subst (λ (x : Option Refusal). ByChecks records space x p order desk table tape r desk' table' tape') (sym e) h)

  pub to_book : earliest (desk_checks p desk.halted table order) ≡ None → ComesToBook records space p order desk table tape r desk' table' tape' → DeskEnters records space o order desk table tape r desk' table' tape'
  to_book e h = at_product (subst (λ (x : Option Refusal). ByChecks records space x p order desk table tape r desk' table' tape') (sym e) h)

-- the same order and range under other names
pub as_came : {T : Type 0} (records : T → List TradeRow) (space : T → ℕ) (products stamp : ℕ) (table : List OrderRow) (tape : T) (r : Result (Receipt Bool) Refusal) (table' : List OrderRow) (tape' : T) (o o' : Incoming) (range range' : Range) → o ≡ o' → range ≡ range' → EntersFrom records space products stamp o.side o range table tape r table' tape' → EntersFrom records space products stamp o'.side o' range' table tape r table' tape'
as_came records space products stamp table tape r table' tape' o o' range range' e f h =
    subst (λ (x : Range). EntersFrom records space products stamp o'.side o' x table tape r table' tape') f
    (subst (λ (x : Incoming). EntersFrom records space products stamp x.side x range table tape r table' tape') e h)
