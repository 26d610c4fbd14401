-- What a byte may do in each state, line by line.
use Rattle.std.proofs.Common.{◌≡◌, ℕ, refl, subst}
use Rattle.jx_lex.specs.declared.alphabet.class.Class.{Class}
use Rattle.jx_lex.specs.declared.alphabet.class.Class.TheVariants as class
use Rattle.jx_lex.specs.declared.alphabet.state.LexState.TheVariants as state
use Rattle.jx_lex.specs.declared.alphabet.mark.MarkKind.TheVariants as mark
use Rattle.jx_lex.specs.declared.alphabet.state.Step.{Step}
use Rattle.jx_lex.specs.Classes.{class_at}
use Rattle.jx_lex.specs.Character.{IsWithin, IsTail}
use Rattle.jx_lex.specs.Moves
use Rattle.jx_lex.specs.Moves.{move, go, begin, close, structural, fault, as_gap}
use Rattle.jx_lex.specs.Token.{IsBlank, IsDigit, IsE, IsHexDigit, IsEscaped}
use Rattle.jx_lex.proofs.ByteFacts
use Rattle.jx_lex.proofs.ByteFacts.{IsOrdinary, IsSignByte, IsLead3}

module _ (b : ℕ) (P : Step → Type 0) where
  pub cases_Gap : (IsBlank b → P (go state.Gap))
      → (b ≡ 0x22 → P (begin mark.String state.Str))
      → (b ≡ 0x2d → P (begin mark.Number state.Minus))
      → (b ≡ 0x30 → P (begin mark.Number state.Zero))
      → (IsWithin 0x31 0x39 b → P (begin mark.Number state.Int))
      → (b ≡ 0x74 → P (begin mark.True state.T))
      → (b ≡ 0x66 → P (begin mark.False state.F))
      → (b ≡ 0x6e → P (begin mark.Null state.N))
      → (b ≡ 0x5b → P (structural mark.OpenArray))
      → (b ≡ 0x5d → P (structural mark.CloseArray))
      → (b ≡ 0x7b → P (structural mark.OpenObject))
      → (b ≡ 0x7d → P (structural mark.CloseObject))
      → (b ≡ 0x3a → P (structural mark.Colon))
      → (b ≡ 0x2c → P (structural mark.Comma))
      → P fault → P (move state.Gap b)
  cases_Gap l1 l2 l3 l4 l5 l6 l7 l8 l9 l10 l11 l12 l13 l14 other = by_class (class_at b) refl
    where
      by_class : (c : Class) → class_at b ≡ c → P (Moves.in_Gap c)
      by_class class.Blank h = l1 (ByteFacts.IsBlank-Blank b h)
      by_class class.Space h = l1 (ByteFacts.IsBlank-Space b h)
      by_class class.Quote h = l2 (ByteFacts.byte-Quote b h)
      by_class class.Minus h = l3 (ByteFacts.byte-Minus b h)
      by_class class.Zero h = l4 (ByteFacts.byte-Zero b h)
      by_class class.Digit h = l5 (ByteFacts.within_31_39-Digit b h)
      by_class class.LowT h = l6 (ByteFacts.byte-LowT b h)
      by_class class.LowF h = l7 (ByteFacts.byte-LowF b h)
      by_class class.LowN h = l8 (ByteFacts.byte-LowN b h)
      by_class class.OpenArray h = l9 (ByteFacts.byte-OpenArray b h)
      by_class class.CloseArray h = l10 (ByteFacts.byte-CloseArray b h)
      by_class class.OpenObject h = l11 (ByteFacts.byte-OpenObject b h)
      by_class class.CloseObject h = l12 (ByteFacts.byte-CloseObject b h)
      by_class class.Colon h = l13 (ByteFacts.byte-Colon b h)
      by_class class.Comma h = l14 (ByteFacts.byte-Comma b h)
      by_class _ h = other

  pub cases_Str : (b ≡ 0x22 → P (close))
      → (b ≡ 0x5c → P (go state.Esc))
      → (IsOrdinary b → P (go state.Str))
      → (IsWithin 0xc2 0xdf b → P (go state.Tail1))
      → (b ≡ 0xe0 → P (go state.AfterE0))
      → (IsLead3 b → P (go state.Tail2))
      → (b ≡ 0xed → P (go state.AfterEd))
      → (b ≡ 0xf0 → P (go state.AfterF0))
      → (IsWithin 0xf1 0xf3 b → P (go state.Tail3))
      → (b ≡ 0xf4 → P (go state.AfterF4))
      → P fault → P (move state.Str b)
  cases_Str l1 l2 l3 l4 l5 l6 l7 l8 l9 l10 other = by_class (class_at b) refl
    where
      by_class : (c : Class) → class_at b ≡ c → P (Moves.in_Str c)
      by_class class.Quote h = l1 (ByteFacts.byte-Quote b h)
      by_class class.Backslash h = l2 (ByteFacts.byte-Backslash b h)
      by_class class.Space h = l3 (ByteFacts.IsOrdinary-Space b h)
      by_class class.Plus h = l3 (ByteFacts.IsOrdinary-Plus b h)
      by_class class.Comma h = l3 (ByteFacts.IsOrdinary-Comma b h)
      by_class class.Minus h = l3 (ByteFacts.IsOrdinary-Minus b h)
      by_class class.Dot h = l3 (ByteFacts.IsOrdinary-Dot b h)
      by_class class.Slash h = l3 (ByteFacts.IsOrdinary-Slash b h)
      by_class class.Zero h = l3 (ByteFacts.IsOrdinary-Zero b h)
      by_class class.Digit h = l3 (ByteFacts.IsOrdinary-Digit b h)
      by_class class.Colon h = l3 (ByteFacts.IsOrdinary-Colon b h)
      by_class class.UpHex h = l3 (ByteFacts.IsOrdinary-UpHex b h)
      by_class class.UpE h = l3 (ByteFacts.IsOrdinary-UpE b h)
      by_class class.OpenArray h = l3 (ByteFacts.IsOrdinary-OpenArray b h)
      by_class class.CloseArray h = l3 (ByteFacts.IsOrdinary-CloseArray b h)
      by_class class.LowA h = l3 (ByteFacts.IsOrdinary-LowA b h)
      by_class class.LowB h = l3 (ByteFacts.IsOrdinary-LowB b h)
      by_class class.LowCD h = l3 (ByteFacts.IsOrdinary-LowCD b h)
      by_class class.LowE h = l3 (ByteFacts.IsOrdinary-LowE b h)
      by_class class.LowF h = l3 (ByteFacts.IsOrdinary-LowF b h)
      by_class class.LowL h = l3 (ByteFacts.IsOrdinary-LowL b h)
      by_class class.LowN h = l3 (ByteFacts.IsOrdinary-LowN b h)
      by_class class.LowR h = l3 (ByteFacts.IsOrdinary-LowR b h)
      by_class class.LowS h = l3 (ByteFacts.IsOrdinary-LowS b h)
      by_class class.LowT h = l3 (ByteFacts.IsOrdinary-LowT b h)
      by_class class.LowU h = l3 (ByteFacts.IsOrdinary-LowU b h)
      by_class class.OpenObject h = l3 (ByteFacts.IsOrdinary-OpenObject b h)
      by_class class.CloseObject h = l3 (ByteFacts.IsOrdinary-CloseObject b h)
      by_class class.Plain h = l3 (ByteFacts.IsOrdinary-Plain b h)
      by_class class.Lead2 h = l4 (ByteFacts.within_c2_df-Lead2 b h)
      by_class class.LeadE0 h = l5 (ByteFacts.byte-LeadE0 b h)
      by_class class.Lead3 h = l6 (ByteFacts.IsLead3-Lead3 b h)
      by_class class.LeadEd h = l7 (ByteFacts.byte-LeadEd b h)
      by_class class.LeadF0 h = l8 (ByteFacts.byte-LeadF0 b h)
      by_class class.Lead4 h = l9 (ByteFacts.within_f1_f3-Lead4 b h)
      by_class class.LeadF4 h = l10 (ByteFacts.byte-LeadF4 b h)
      by_class _ h = other

  pub cases_Esc : (IsEscaped b → P (go state.Str))
      → (b ≡ 0x75 → P (go state.Hex4))
      → P fault → P (move state.Esc b)
  cases_Esc l1 l2 other = by_class (class_at b) refl
    where
      by_class : (c : Class) → class_at b ≡ c → P (Moves.in_Esc c)
      by_class class.Quote h = l1 (ByteFacts.IsEscaped-Quote b h)
      by_class class.Backslash h = l1 (ByteFacts.IsEscaped-Backslash b h)
      by_class class.Slash h = l1 (ByteFacts.IsEscaped-Slash b h)
      by_class class.LowB h = l1 (ByteFacts.IsEscaped-LowB b h)
      by_class class.LowF h = l1 (ByteFacts.IsEscaped-LowF b h)
      by_class class.LowN h = l1 (ByteFacts.IsEscaped-LowN b h)
      by_class class.LowR h = l1 (ByteFacts.IsEscaped-LowR b h)
      by_class class.LowT h = l1 (ByteFacts.IsEscaped-LowT b h)
      by_class class.LowU h = l2 (ByteFacts.byte-LowU b h)
      by_class _ h = other

  pub cases_Hex4 : (IsHexDigit b → P (go state.Hex3))
      → P fault → P (move state.Hex4 b)
  cases_Hex4 l1 other = by_class (class_at b) refl
    where
      by_class : (c : Class) → class_at b ≡ c → P (Moves.in_Hex4 c)
      by_class class.Zero h = l1 (ByteFacts.IsHexDigit-Zero b h)
      by_class class.Digit h = l1 (ByteFacts.IsHexDigit-Digit b h)
      by_class class.UpHex h = l1 (ByteFacts.IsHexDigit-UpHex b h)
      by_class class.UpE h = l1 (ByteFacts.IsHexDigit-UpE b h)
      by_class class.LowA h = l1 (ByteFacts.IsHexDigit-LowA b h)
      by_class class.LowB h = l1 (ByteFacts.IsHexDigit-LowB b h)
      by_class class.LowCD h = l1 (ByteFacts.IsHexDigit-LowCD b h)
      by_class class.LowE h = l1 (ByteFacts.IsHexDigit-LowE b h)
      by_class class.LowF h = l1 (ByteFacts.IsHexDigit-LowF b h)
      by_class _ h = other

  pub cases_Hex3 : (IsHexDigit b → P (go state.Hex2))
      → P fault → P (move state.Hex3 b)
  cases_Hex3 l1 other = by_class (class_at b) refl
    where
      by_class : (c : Class) → class_at b ≡ c → P (Moves.in_Hex3 c)
      by_class class.Zero h = l1 (ByteFacts.IsHexDigit-Zero b h)
      by_class class.Digit h = l1 (ByteFacts.IsHexDigit-Digit b h)
      by_class class.UpHex h = l1 (ByteFacts.IsHexDigit-UpHex b h)
      by_class class.UpE h = l1 (ByteFacts.IsHexDigit-UpE b h)
      by_class class.LowA h = l1 (ByteFacts.IsHexDigit-LowA b h)
      by_class class.LowB h = l1 (ByteFacts.IsHexDigit-LowB b h)
      by_class class.LowCD h = l1 (ByteFacts.IsHexDigit-LowCD b h)
      by_class class.LowE h = l1 (ByteFacts.IsHexDigit-LowE b h)
      by_class class.LowF h = l1 (ByteFacts.IsHexDigit-LowF b h)
      by_class _ h = other

  pub cases_Hex2 : (IsHexDigit b → P (go state.Hex1))
      → P fault → P (move state.Hex2 b)
  cases_Hex2 l1 other = by_class (class_at b) refl
    where
      by_class : (c : Class) → class_at b ≡ c → P (Moves.in_Hex2 c)
      by_class class.Zero h = l1 (ByteFacts.IsHexDigit-Zero b h)
      by_class class.Digit h = l1 (ByteFacts.IsHexDigit-Digit b h)
      by_class class.UpHex h = l1 (ByteFacts.IsHexDigit-UpHex b h)
      by_class class.UpE h = l1 (ByteFacts.IsHexDigit-UpE b h)
      by_class class.LowA h = l1 (ByteFacts.IsHexDigit-LowA b h)
      by_class class.LowB h = l1 (ByteFacts.IsHexDigit-LowB b h)
      by_class class.LowCD h = l1 (ByteFacts.IsHexDigit-LowCD b h)
      by_class class.LowE h = l1 (ByteFacts.IsHexDigit-LowE b h)
      by_class class.LowF h = l1 (ByteFacts.IsHexDigit-LowF b h)
      by_class _ h = other

  pub cases_Hex1 : (IsHexDigit b → P (go state.Str))
      → P fault → P (move state.Hex1 b)
  cases_Hex1 l1 other = by_class (class_at b) refl
    where
      by_class : (c : Class) → class_at b ≡ c → P (Moves.in_Hex1 c)
      by_class class.Zero h = l1 (ByteFacts.IsHexDigit-Zero b h)
      by_class class.Digit h = l1 (ByteFacts.IsHexDigit-Digit b h)
      by_class class.UpHex h = l1 (ByteFacts.IsHexDigit-UpHex b h)
      by_class class.UpE h = l1 (ByteFacts.IsHexDigit-UpE b h)
      by_class class.LowA h = l1 (ByteFacts.IsHexDigit-LowA b h)
      by_class class.LowB h = l1 (ByteFacts.IsHexDigit-LowB b h)
      by_class class.LowCD h = l1 (ByteFacts.IsHexDigit-LowCD b h)
      by_class class.LowE h = l1 (ByteFacts.IsHexDigit-LowE b h)
      by_class class.LowF h = l1 (ByteFacts.IsHexDigit-LowF b h)
      by_class _ h = other

  pub cases_Tail1 : (IsTail b → P (go state.Str))
      → P fault → P (move state.Tail1 b)
  cases_Tail1 l1 other = by_class (class_at b) refl
    where
      by_class : (c : Class) → class_at b ≡ c → P (Moves.in_Tail1 c)
      by_class class.TailA h = l1 (ByteFacts.IsTail-TailA b h)
      by_class class.TailB h = l1 (ByteFacts.IsTail-TailB b h)
      by_class class.TailC h = l1 (ByteFacts.IsTail-TailC b h)
      by_class _ h = other

  pub cases_Tail2 : (IsTail b → P (go state.Tail1))
      → P fault → P (move state.Tail2 b)
  cases_Tail2 l1 other = by_class (class_at b) refl
    where
      by_class : (c : Class) → class_at b ≡ c → P (Moves.in_Tail2 c)
      by_class class.TailA h = l1 (ByteFacts.IsTail-TailA b h)
      by_class class.TailB h = l1 (ByteFacts.IsTail-TailB b h)
      by_class class.TailC h = l1 (ByteFacts.IsTail-TailC b h)
      by_class _ h = other

  pub cases_Tail3 : (IsTail b → P (go state.Tail2))
      → P fault → P (move state.Tail3 b)
  cases_Tail3 l1 other = by_class (class_at b) refl
    where
      by_class : (c : Class) → class_at b ≡ c → P (Moves.in_Tail3 c)
      by_class class.TailA h = l1 (ByteFacts.IsTail-TailA b h)
      by_class class.TailB h = l1 (ByteFacts.IsTail-TailB b h)
      by_class class.TailC h = l1 (ByteFacts.IsTail-TailC b h)
      by_class _ h = other

  pub cases_AfterE0 : (IsWithin 0xa0 0xbf b → P (go state.Tail1))
      → P fault → P (move state.AfterE0 b)
  cases_AfterE0 l1 other = by_class (class_at b) refl
    where
      by_class : (c : Class) → class_at b ≡ c → P (Moves.in_AfterE0 c)
      by_class class.TailC h = l1 (ByteFacts.within_a0_bf-TailC b h)
      by_class _ h = other

  pub cases_AfterEd : (IsWithin 0x80 0x9f b → P (go state.Tail1))
      → P fault → P (move state.AfterEd b)
  cases_AfterEd l1 other = by_class (class_at b) refl
    where
      by_class : (c : Class) → class_at b ≡ c → P (Moves.in_AfterEd c)
      by_class class.TailA h = l1 (ByteFacts.within_80_9f-TailA b h)
      by_class class.TailB h = l1 (ByteFacts.within_80_9f-TailB b h)
      by_class _ h = other

  pub cases_AfterF0 : (IsWithin 0x90 0xbf b → P (go state.Tail2))
      → P fault → P (move state.AfterF0 b)
  cases_AfterF0 l1 other = by_class (class_at b) refl
    where
      by_class : (c : Class) → class_at b ≡ c → P (Moves.in_AfterF0 c)
      by_class class.TailB h = l1 (ByteFacts.within_90_bf-TailB b h)
      by_class class.TailC h = l1 (ByteFacts.within_90_bf-TailC b h)
      by_class _ h = other

  pub cases_AfterF4 : (IsWithin 0x80 0x8f b → P (go state.Tail2))
      → P fault → P (move state.AfterF4 b)
  cases_AfterF4 l1 other = by_class (class_at b) refl
    where
      by_class : (c : Class) → class_at b ≡ c → P (Moves.in_AfterF4 c)
      by_class class.TailA h = l1 (ByteFacts.within_80_8f-TailA b h)
      by_class _ h = other

  pub cases_Minus : (b ≡ 0x30 → P (go state.Zero))
      → (IsWithin 0x31 0x39 b → P (go state.Int))
      → P fault → P (move state.Minus b)
  cases_Minus l1 l2 other = by_class (class_at b) refl
    where
      by_class : (c : Class) → class_at b ≡ c → P (Moves.in_Minus c)
      by_class class.Zero h = l1 (ByteFacts.byte-Zero b h)
      by_class class.Digit h = l2 (ByteFacts.within_31_39-Digit b h)
      by_class _ h = other

  pub cases_Zero : (b ≡ 0x2e → P (go state.Dot))
      → (IsE b → P (go state.E))
      → P (as_gap (class_at b)) → P (move state.Zero b)
  cases_Zero l1 l2 other = by_class (class_at b) refl
    where
      by_class : (c : Class) → class_at b ≡ c → P (Moves.in_Zero c)
      by_class class.Dot h = l1 (ByteFacts.byte-Dot b h)
      by_class class.LowE h = l2 (ByteFacts.IsE-LowE b h)
      by_class class.UpE h = l2 (ByteFacts.IsE-UpE b h)
      by_class _ h = subst (λ k. P (as_gap k)) h other

  pub cases_Int : (IsDigit b → P (go state.Int))
      → (b ≡ 0x2e → P (go state.Dot))
      → (IsE b → P (go state.E))
      → P (as_gap (class_at b)) → P (move state.Int b)
  cases_Int l1 l2 l3 other = by_class (class_at b) refl
    where
      by_class : (c : Class) → class_at b ≡ c → P (Moves.in_Int c)
      by_class class.Zero h = l1 (ByteFacts.IsDigit-Zero b h)
      by_class class.Digit h = l1 (ByteFacts.IsDigit-Digit b h)
      by_class class.Dot h = l2 (ByteFacts.byte-Dot b h)
      by_class class.LowE h = l3 (ByteFacts.IsE-LowE b h)
      by_class class.UpE h = l3 (ByteFacts.IsE-UpE b h)
      by_class _ h = subst (λ k. P (as_gap k)) h other

  pub cases_Dot : (IsDigit b → P (go state.Frac))
      → P fault → P (move state.Dot b)
  cases_Dot l1 other = by_class (class_at b) refl
    where
      by_class : (c : Class) → class_at b ≡ c → P (Moves.in_Dot c)
      by_class class.Zero h = l1 (ByteFacts.IsDigit-Zero b h)
      by_class class.Digit h = l1 (ByteFacts.IsDigit-Digit b h)
      by_class _ h = other

  pub cases_Frac : (IsDigit b → P (go state.Frac))
      → (IsE b → P (go state.E))
      → P (as_gap (class_at b)) → P (move state.Frac b)
  cases_Frac l1 l2 other = by_class (class_at b) refl
    where
      by_class : (c : Class) → class_at b ≡ c → P (Moves.in_Frac c)
      by_class class.Zero h = l1 (ByteFacts.IsDigit-Zero b h)
      by_class class.Digit h = l1 (ByteFacts.IsDigit-Digit b h)
      by_class class.LowE h = l2 (ByteFacts.IsE-LowE b h)
      by_class class.UpE h = l2 (ByteFacts.IsE-UpE b h)
      by_class _ h = subst (λ k. P (as_gap k)) h other

  pub cases_E : (IsSignByte b → P (go state.ESign))
      → (IsDigit b → P (go state.Exp))
      → P fault → P (move state.E b)
  cases_E l1 l2 other = by_class (class_at b) refl
    where
      by_class : (c : Class) → class_at b ≡ c → P (Moves.in_E c)
      by_class class.Plus h = l1 (ByteFacts.IsSignByte-Plus b h)
      by_class class.Minus h = l1 (ByteFacts.IsSignByte-Minus b h)
      by_class class.Zero h = l2 (ByteFacts.IsDigit-Zero b h)
      by_class class.Digit h = l2 (ByteFacts.IsDigit-Digit b h)
      by_class _ h = other

  pub cases_ESign : (IsDigit b → P (go state.Exp))
      → P fault → P (move state.ESign b)
  cases_ESign l1 other = by_class (class_at b) refl
    where
      by_class : (c : Class) → class_at b ≡ c → P (Moves.in_ESign c)
      by_class class.Zero h = l1 (ByteFacts.IsDigit-Zero b h)
      by_class class.Digit h = l1 (ByteFacts.IsDigit-Digit b h)
      by_class _ h = other

  pub cases_Exp : (IsDigit b → P (go state.Exp))
      → P (as_gap (class_at b)) → P (move state.Exp b)
  cases_Exp l1 other = by_class (class_at b) refl
    where
      by_class : (c : Class) → class_at b ≡ c → P (Moves.in_Exp c)
      by_class class.Zero h = l1 (ByteFacts.IsDigit-Zero b h)
      by_class class.Digit h = l1 (ByteFacts.IsDigit-Digit b h)
      by_class _ h = subst (λ k. P (as_gap k)) h other

  pub cases_T : (b ≡ 0x72 → P (go state.Tr))
      → P fault → P (move state.T b)
  cases_T l1 other = by_class (class_at b) refl
    where
      by_class : (c : Class) → class_at b ≡ c → P (Moves.in_T c)
      by_class class.LowR h = l1 (ByteFacts.byte-LowR b h)
      by_class _ h = other

  pub cases_Tr : (b ≡ 0x75 → P (go state.Tru))
      → P fault → P (move state.Tr b)
  cases_Tr l1 other = by_class (class_at b) refl
    where
      by_class : (c : Class) → class_at b ≡ c → P (Moves.in_Tr c)
      by_class class.LowU h = l1 (ByteFacts.byte-LowU b h)
      by_class _ h = other

  pub cases_Tru : (b ≡ 0x65 → P (close))
      → P fault → P (move state.Tru b)
  cases_Tru l1 other = by_class (class_at b) refl
    where
      by_class : (c : Class) → class_at b ≡ c → P (Moves.in_Tru c)
      by_class class.LowE h = l1 (ByteFacts.byte-LowE b h)
      by_class _ h = other

  pub cases_F : (b ≡ 0x61 → P (go state.Fa))
      → P fault → P (move state.F b)
  cases_F l1 other = by_class (class_at b) refl
    where
      by_class : (c : Class) → class_at b ≡ c → P (Moves.in_F c)
      by_class class.LowA h = l1 (ByteFacts.byte-LowA b h)
      by_class _ h = other

  pub cases_Fa : (b ≡ 0x6c → P (go state.Fal))
      → P fault → P (move state.Fa b)
  cases_Fa l1 other = by_class (class_at b) refl
    where
      by_class : (c : Class) → class_at b ≡ c → P (Moves.in_Fa c)
      by_class class.LowL h = l1 (ByteFacts.byte-LowL b h)
      by_class _ h = other

  pub cases_Fal : (b ≡ 0x73 → P (go state.Fals))
      → P fault → P (move state.Fal b)
  cases_Fal l1 other = by_class (class_at b) refl
    where
      by_class : (c : Class) → class_at b ≡ c → P (Moves.in_Fal c)
      by_class class.LowS h = l1 (ByteFacts.byte-LowS b h)
      by_class _ h = other

  pub cases_Fals : (b ≡ 0x65 → P (close))
      → P fault → P (move state.Fals b)
  cases_Fals l1 other = by_class (class_at b) refl
    where
      by_class : (c : Class) → class_at b ≡ c → P (Moves.in_Fals c)
      by_class class.LowE h = l1 (ByteFacts.byte-LowE b h)
      by_class _ h = other

  pub cases_N : (b ≡ 0x75 → P (go state.Nu))
      → P fault → P (move state.N b)
  cases_N l1 other = by_class (class_at b) refl
    where
      by_class : (c : Class) → class_at b ≡ c → P (Moves.in_N c)
      by_class class.LowU h = l1 (ByteFacts.byte-LowU b h)
      by_class _ h = other

  pub cases_Nu : (b ≡ 0x6c → P (go state.Nul))
      → P fault → P (move state.Nu b)
  cases_Nu l1 other = by_class (class_at b) refl
    where
      by_class : (c : Class) → class_at b ≡ c → P (Moves.in_Nu c)
      by_class class.LowL h = l1 (ByteFacts.byte-LowL b h)
      by_class _ h = other

  pub cases_Nul : (b ≡ 0x6c → P (close))
      → P fault → P (move state.Nul b)
  cases_Nul l1 other = by_class (class_at b) refl
    where
      by_class : (c : Class) → class_at b ≡ c → P (Moves.in_Nul c)
      by_class class.LowL h = l1 (ByteFacts.byte-LowL b h)
      by_class _ h = other
