-- Request c's cases, worked out by hand from its words. To be read with 02 c beside it.
use Rattle.std.specs.Prelude.{◌≡◌, [], ◌∷◌, pos, negsuc, Ok, Err}
use Rattle.paper.specs.Text.{text}
use Rattle.paper.specs.Numbers.{choosing_numbers}
use Rattle.paper.specs.Decimal.{number_of}
use Rattle.paper.specs.Rate.{pair, deviating, choose}
use Rattle.paper.specs.RateLines.{refused_words, rate_text}
use Rattle.paper.specs.declared.Refusal.TheVariants.{OutsideRange, TooFar, BadField}

-- THE CHOICE

-- "25 MHz and 9,600 give 32 and 81, deviation +4693": 32 x 81 = 2592; 25,000,000 - 9,600 x 2592 = 116,800; of 24,883,200 that is 4693.9 millionths
pub record ChoiceCases : Type 0 where
  pub request : choose 25000000 9600 ≡ Ok (deviating (pair 32 81) (pos 4693))
  -- below the wanted rate: 8 x 163 = 1304; 25,000,000 - 19,200 x 1304 = -36,800; of 25,036,800 that is -1469.8, "cut toward zero"
  pub below : choose 25000000 19200 ≡ Ok (deviating (pair 8 163) (negsuc 1468))
  -- 38,400 x 8 x 66 = 20,275,200, exactly; with one Hz more or less the deviation is a twentieth of a millionth, of either sign
  pub exact : choose 20275200 38400 ≡ Ok (deviating (pair 8 66) (pos 0))
  pub just_above : choose 20275201 38400 ≡ Ok (deviating (pair 8 66) (pos 0))
  pub just_below : choose 20275199 38400 ≡ Ok (deviating (pair 8 66) (pos 0))
  -- "compared as exact fractions": 6258.006 is 149.006 above, 5960.006 is 148.994 below, though 8 x 20 is nearer to 1,001,281 / 6109 than 8 x 21
  pub as_fractions : choose 1001281 6109 ≡ Ok (deviating (pair 8 21) (negsuc 24388))
  -- the first pair: 1,000,000 / 8
  pub first_pair : choose 1000000 125000 ≡ Ok (deviating (pair 8 1) (pos 0))

-- "ties go to the smaller divisor, then the smaller period"
pub record TieCases : Type 0 where
  -- 768 = 8 x 96 = 32 x 24 = 128 x 6
  pub divisors : choose 7372800 9600 ≡ Ok (deviating (pair 8 96) (pos 0))
  -- 640 = 8 x 80 = 32 x 20 = 128 x 5, and none is nearer: -24,000 of 25,024,000
  pub divisors_near : choose 25000000 39100 ≡ Ok (deviating (pair 8 80) (negsuc 958))
  -- 8 x 20 gives 42,000 and 8 x 21 gives 40,000: each 1,000 away
  pub periods : choose 6720000 41000 ≡ Ok (deviating (pair 8 20) (pos 24390))

-- "Refusals: 12 clock or rate outside its range; 13 exactly if every pair is more than 25,000 millionths away, before cutting."
pub record RateRefusalCases : Type 0 where
  pub clock_below : choose 999999 9600 ≡ Err OutsideRange
  pub least_clock : choose 1000000 9600 ≡ Ok (deviating (pair 8 13) (pos 1602))
  pub greatest_clock : choose 60000000 230400 ≡ Ok (deviating (pair 8 33) (negsuc 13572))
  pub clock_above : choose 60000001 9600 ≡ Err OutsideRange
  pub rate_below : choose 25000000 0 ≡ Err OutsideRange
  pub least_rate : choose 60000000 1 ≡ Err TooFar
  pub greatest_rate : choose 20275200 230400 ≡ Ok (deviating (pair 8 11) (pos 0))
  pub rate_above : choose 25000000 230401 ≡ Err OutsideRange
  pub both : choose 999999 1 ≡ Err OutsideRange
  -- 3,280,000 / 80 = 41,000, 25,000 millionths above 40,000; one Hz more is 25,000.3, which would be cut to 25,000
  pub edge_above : choose 3280000 40000 ≡ Ok (deviating (pair 8 10) (pos 25000))
  pub past_above : choose 3280001 40000 ≡ Err TooFar
  -- 3,120,000 / 80 = 39,000
  pub edge_below : choose 3120000 40000 ≡ Ok (deviating (pair 8 10) (negsuc 24999))
  pub past_below : choose 3119999 40000 ≡ Err TooFar
  -- 60,000,000 / 522,240 is 25,800 millionths above 112
  pub too_slow : choose 60000000 112 ≡ Err TooFar

-- The larger divisors. 60,000,000 / 522,240, the last pair's, is 16,723 millionths above 113 and 959 below 115; 19,968 = 128 x 156 = 512 x 39 gives 50.08
pub record SlowRateCases : Type 0 where
  pub slow : choose 60000000 113 ≡ Ok (deviating (pair 2048 255) (pos 16723))
  pub last_pair : choose 60000000 115 ≡ Ok (deviating (pair 2048 255) (negsuc 958))
  pub divisors : choose 1000000 50 ≡ Ok (deviating (pair 128 156) (pos 1602))
  pub five_hundred_and_twelve : choose 25000000 300 ≡ Ok (deviating (pair 512 163) (negsuc 1468))

-- AS NUMBERS AND AS WORDS

pub record ChoosingNumberCases : Type 0 where
  pub above : choosing_numbers (Ok (deviating (pair 32 81) (pos 4693))) ≡ 0 ∷ 32 ∷ 81 ∷ 4693 ∷ 0 ∷ []
  pub below : choosing_numbers (Ok (deviating (pair 8 163) (negsuc 1468))) ≡ 0 ∷ 8 ∷ 163 ∷ 1469 ∷ 1 ∷ []
  pub exact : choosing_numbers (Ok (deviating (pair 32 66) (pos 0))) ≡ 0 ∷ 32 ∷ 66 ∷ 0 ∷ 0 ∷ []
  pub outside : choosing_numbers (Err OutsideRange) ≡ 12 ∷ []
  pub too_far : choosing_numbers (Err TooFar) ≡ 13 ∷ []

-- a word's number: 4294967295 where it is none, or too large for u32
pub record WordCases : Type 0 where
  pub plain : number_of (text "9600") ≡ 9600
  pub zero : number_of (text "0") ≡ 0
  pub leading_zeros : number_of (text "0000000000000009600") ≡ 9600
  pub most : number_of (text "4294967295") ≡ 4294967295
  pub too_large : number_of (text "4294967296") ≡ 4294967295
  -- 2 ^ 32 + 9600
  pub far_too_large : number_of (text "4294976896") ≡ 4294967295
  pub empty : number_of [] ≡ 4294967295
  pub signed : number_of (text "+9600") ≡ 4294967295
  pub letter_behind : number_of (text "96O0") ≡ 4294967295
  -- the characters beside the digits
  pub below_digits : number_of (text "/") ≡ 4294967295
  pub above_digits : number_of (text ":") ≡ 4294967295
  pub space : number_of (text "9600 ") ≡ 4294967295

-- what the program writes for its words
pub record RateTextCases : Type 0 where
  pub none : rate_text [] ≡ []
  pub signs : rate_text (text "25000000" ∷ text "38400" ∷ text "19200" ∷ []) ≡ text "38400 8 81 +4693\n19200 8 163 -1469\n"
  pub exact : rate_text (text "20275200" ∷ text "38400" ∷ []) ≡ text "38400 8 66 0\n"
  pub refused : rate_text (text "25000000" ∷ text "230400" ∷ text "230401" ∷ text "0" ∷ [])
      ≡ text "230400 refused 13\n230401 refused 12\n0 refused 12\n"
  -- "printed as it came"
  pub as_it_came : rate_text (text "25000000" ∷ text "0038400" ∷ text "9600 baud" ∷ [] ∷ text "4294976896" ∷ [])
      ≡ text "0038400 8 81 +4693\n9600 baud refused 12\n refused 12\n4294976896 refused 12\n"
  pub bad_clock : rate_text (text "25MHz" ∷ text "9600" ∷ []) ≡ text "9600 refused 12\n"
  -- a refusal's further number stands behind its own
  pub further : refused_words (BadField 4) ≡ text "refused 5 4"

-- the clock alone
pub record UsualRateCases : Type 0 where
  pub usual : rate_text (text "25000000" ∷ [])
      ≡ rate_text (text "25000000"
      ∷ text "50" ∷ text "75" ∷ text "110" ∷ text "150" ∷ text "300" ∷ text "600" ∷ text "1200" ∷ text "1800" ∷ text "2400" ∷ text "3600"
      ∷ text "4800" ∷ text "7200" ∷ text "9600" ∷ text "14400" ∷ text "19200" ∷ text "28800" ∷ text "38400" ∷ text "57600" ∷ text "115200"
      ∷ text "230400" ∷ [])
