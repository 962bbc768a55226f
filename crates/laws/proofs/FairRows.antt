-- What the numbers of an order that stands are, part by part, and which rows stay orders. Assumes nothing.
use Rattle.std.proofs.Common.{◌≡◌, ℕ, ◌<◌, ◌≤◌, true, ◌&&◌, ltb, leb, is_some, refl, arith}
use Rattle.std.proofs.lemmas.Bool.{and_parts, and_from, leb-true, le-leb, ltb-true, lt-ltb, false≢true}
use Rattle.orders.specs.Questions.{stands}
use Rattle.orders.specs.Rows.{fair, side_code, side_of, duration_code, duration_date, duration_of}
use Rattle.orders.specs.declared.row.OrderRow.{OrderRow}
use Rattle.terms.specs.Durations.{may_rest}
use Rattle.terms.specs.declared.duration.Duration.{Duration}
use Rattle.terms.specs.declared.duration.Duration.TheVariants.{Now, Session, Day, Until, UntilCancelled}
use Rattle.terms.specs.declared.side.Side.{Side}
use Rattle.terms.specs.declared.side.Side.TheVariants.{Buy, Sell}

pub record Proper (r : OrderRow) : Type 0 where
  pub sided : is_some (side_of r.side) ≡ true
  pub lasting : is_some (duration_of r.duration r.date) ≡ true
  pub price : r.price ≤ 1000000
  pub some : 1 ≤ r.rest
  pub most : r.rest ≤ 1000000
  pub somebody : 1 ≤ r.participant
  pub known : r.participant ≤ 999
  pub numbered : 1 ≤ r.number
  pub placed : 1 ≤ r.place

pub proper : (r : OrderRow) → fair r ≡ true → Proper r
unfolding fair
proper r h =
    let g = and_parts _ (leb 1 r.place) h in
    let f = and_parts _ (leb 1 r.number) g.0 in
    let e = and_parts _ (leb 1 r.participant && leb r.participant 999) f.0 in
    let e' = and_parts (leb 1 r.participant) (leb r.participant 999) e.1 in
    let d = and_parts _ (leb 1 r.rest && leb r.rest 1000000) e.0 in
    let d' = and_parts (leb 1 r.rest) (leb r.rest 1000000) d.1 in
    let c = and_parts _ (leb r.price 1000000) d.0 in
    let b = and_parts (is_some (side_of r.side)) (is_some (duration_of r.duration r.date)) c.0 in
    record {
      sided = b.0;
      lasting = b.1;
      price = leb-true r.price 1000000 c.1;
      some = leb-true 1 r.rest d'.0;
      most = leb-true r.rest 1000000 d'.1;
      somebody = leb-true 1 r.participant e'.0;
      known = leb-true r.participant 999 e'.1;
      numbered = leb-true 1 r.number f.1;
      placed = leb-true 1 r.place g.1;
    }

pub fair_from : (r : OrderRow) → Proper r → fair r ≡ true
unfolding fair
fair_from r p =
    and_from _ _ (and_from _ _ (and_from _ _ (and_from _ _ (and_from _ _ (and_from _ _ p.sided p.lasting) (le-leb r.price 1000000 p.price))
    (and_from _ _ (le-leb 1 r.rest p.some) (le-leb r.rest 1000000 p.most)))
    (and_from _ _ (le-leb 1 r.participant p.somebody) (le-leb r.participant 999 p.known)))
    (le-leb 1 r.number p.numbered)) (le-leb 1 r.place p.placed)

pub stands_fair : (n : ℕ) (r : OrderRow) → stands n r ≡ true → fair r ≡ true
stands_fair n r h = (and_parts (fair r) (ltb r.product n) h).0

pub stands_proper : (n : ℕ) (r : OrderRow) → stands n r ≡ true → Proper r
stands_proper n r h = proper r (stands_fair n r h)

pub stands_listed : (n : ℕ) (r : OrderRow) → stands n r ≡ true → r.product < n
stands_listed n r h = ltb-true r.product n (and_parts (fair r) (ltb r.product n) h).1

pub stands_from : (n : ℕ) (r : OrderRow) → Proper r → r.product < n → stands n r ≡ true
stands_from n r p l = and_from (fair r) (ltb r.product n) (fair_from r p) (lt-ltb r.product n l)

-- codes

pub side_coded : (s : Side) → is_some (side_of (side_code s)) ≡ true
side_coded Buy = refl
side_coded Sell = refl

pub duration_coded : (d : Duration) → may_rest d ≡ true → is_some (duration_of (duration_code d) (duration_date d)) ≡ true
duration_coded Now e = absurd (false≢true e)
duration_coded Session e = refl
duration_coded Day e = refl
duration_coded (Until date) e = refl
duration_coded UntilCancelled e = refl

-- what is left of an order from which less than all is taken

abbrev pub reduced : OrderRow → ℕ → OrderRow
reduced r rest =
    record {
      number = r.number;
      place = r.place;
      product = r.product;
      side = r.side;
      price = r.price;
      rest = rest;
      participant = r.participant;
      duration = r.duration;
      date = r.date;
      entered = r.entered;
    }

pub reduced_proper : (r : OrderRow) (rest : ℕ) → Proper r → 1 ≤ rest → rest ≤ r.rest → Proper (reduced r rest)
reduced_proper r rest p l u =
    record {
      sided = p.sided;
      lasting = p.lasting;
      price = p.price;
      some = l;
      most = omega (arith, p.most);
      somebody = p.somebody;
      known = p.known;
      numbered = p.numbered;
      placed = p.placed;
    }
