-- What the code gives is known by the paper's answer: no two give the same. It is an error where the answer is a refusal.
-- Assumes nothing.
use mathlib.Core.Path.{◌≡◌, refl, ap}
use Rattle.std.specs.Prelude.{Option, Result, is_err}
use Rattle.std.specs.declared.option.Option.TheVariants as option
use Rattle.std.specs.declared.result.Result.TheVariants as result
use Rattle.auction_definitions.specs.declared.AuctionPrice.{AuctionPrice}
use Rattle.auction_definitions.specs.declared.AuctionRefusal.{AuctionRefusal}
use Rattle.auction_definitions.specs.declared.AuctionRefusal.TheVariants as refusal
use Rattle.auction_definitions.specs.Answers.{answered, refusal_number}
use Rattle.auction_definitions.specs.Current.{is_refused}

pub one-number : (r s : AuctionRefusal) → refusal_number r ≡ refusal_number s → r ≡ s
one-number refusal.Lists refusal.Lists e = refl
one-number refusal.Lists refusal.BadOrder e = cc
one-number refusal.Lists refusal.Place e = cc
one-number refusal.BadOrder refusal.Lists e = cc
one-number refusal.BadOrder refusal.BadOrder e = refl
one-number refusal.BadOrder refusal.Place e = cc
one-number refusal.Place refusal.Lists e = cc
one-number refusal.Place refusal.BadOrder e = cc
one-number refusal.Place refusal.Place e = refl

one-price : (p q : AuctionPrice) → p.price ≡ q.price → p.volume ≡ q.volume → p ≡ q
one-price p q price volume = λ i. record { price = price i; volume = volume i }

pub one-answer : (a b : Result (Option AuctionPrice) AuctionRefusal) → answered a ≡ answered b → a ≡ b
one-answer (result.Ok option.None) (result.Ok option.None) e = refl
one-answer (result.Ok option.None) (result.Ok (option.Some q)) e = cc
one-answer (result.Ok option.None) (result.Err s) e = cc
one-answer (result.Ok (option.Some p)) (result.Ok option.None) e = cc
one-answer (result.Ok (option.Some p)) (result.Ok (option.Some q)) e =
    let price : p.price ≡ q.price = cc in
    let volume : p.volume ≡ q.volume = cc in
    ap (λ (x : AuctionPrice). result.Ok (option.Some x)) (one-price p q price volume)
one-answer (result.Ok (option.Some p)) (result.Err s) e = cc
one-answer (result.Err r) (result.Ok option.None) e = cc
one-answer (result.Err r) (result.Ok (option.Some q)) e = cc
one-answer (result.Err r) (result.Err s) e =
    let number : refusal_number r ≡ refusal_number s = cc in ap result.Err (one-number r s number)

pub refused-is-err : (a : Result (Option AuctionPrice) AuctionRefusal) → is_refused (answered a) ≡ is_err a
refused-is-err (result.Ok option.None) = refl
refused-is-err (result.Ok (option.Some p)) = refl
refused-is-err (result.Err r) = refl
