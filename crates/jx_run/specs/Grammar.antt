-- The grammar of JSON values (RFC 8259, sections 2 to 7). Each relation has the bytes from an offset on and what is left of
-- them from a later offset on, so `Value i bytes j rest tree` says that a value stands from i to j. Over each stands the
-- rule of the standard's grammar (RFC 5234) that it says. Bytes: 5B [, 5D ], 7B {, 7D }, 2C the comma, 3A the colon.
use Rattle.std.specs.Prelude.{◌≡◌, ℕ, suc, ◌+◌, List, ◌∷◌, ◌++◌, length, None, Some}
use Rattle.jx_lex.specs.declared.kind.Kind.{Kind}
use Rattle.jx_lex.specs.declared.kind.Kind.TheVariants.{Object, Array, String}
use Rattle.jx_lex.specs.Token.{IsBlank, IsToken}
use Rattle.jx_run.specs.Tree.{Tree, node, Children, no_children, child, span}

-- any number of insignificant white space (section 2)
--   ws = *( %x20 / %x09 / %x0A / %x0D )
pub data Blanks : ℕ → List ℕ → ℕ → List ℕ → Type 0 where
  no_blanks : {i : ℕ} {bytes : List ℕ} → Blanks i bytes i bytes
  blank : {b i j : ℕ} {bytes rest : List ℕ} → IsBlank b → Blanks (suc i) bytes j rest → Blanks i (b ∷ bytes) j rest

-- a string, a number or a literal that stands from i to j (sections 3, 6 and 7)
--   false / null / true / number / string
pub record Scalar (kind : Kind) (i : ℕ) (bytes : List ℕ) (j : ℕ) (rest : List ℕ) : Type 0 where
  pub token : List ℕ
  pub is_token : IsToken kind token
  pub whole : bytes ≡ token ++ rest
  pub end : j ≡ i + length token

mutual
  -- a value (section 3)
  --   value = false / null / true / object / array / number / string
  pub data Value : ℕ → List ℕ → ℕ → List ℕ → Tree → Type 0 where
    -- a string, a number or a literal
    leaf : {kind : Kind} {i j : ℕ} {bytes rest : List ℕ}
        → Scalar kind i bytes j rest → Value i bytes j rest (node kind (span i j) no_children)
    -- an array without elements (section 5): array = begin-array end-array, with ws between
    empty_array : {i j : ℕ} {bytes rest : List ℕ}
        → Blanks (suc i) bytes j (0x5d ∷ rest) → Value i (0x5b ∷ bytes) (suc j) rest (node Array (span i (suc j)) no_children)
    -- an array (section 5): array = begin-array value *( value-separator value ) end-array
    array : {i j : ℕ} {bytes rest : List ℕ} {children : Children}
        → Items (suc i) bytes j (0x5d ∷ rest) children → Value i (0x5b ∷ bytes) (suc j) rest (node Array (span i (suc j)) children)
    -- an object without members (section 4): object = begin-object end-object, with ws between
    empty_object : {i j : ℕ} {bytes rest : List ℕ}
        → Blanks (suc i) bytes j (0x7d ∷ rest) → Value i (0x7b ∷ bytes) (suc j) rest (node Object (span i (suc j)) no_children)
    -- an object (section 4): object = begin-object member *( value-separator member ) end-object
    object : {i j : ℕ} {bytes rest : List ℕ} {children : Children}
        → Members (suc i) bytes j (0x7d ∷ rest) children → Value i (0x7b ∷ bytes) (suc j) rest (node Object (span i (suc j)) children)

  -- the elements of an array, with the white space around each (section 5)
  --   value *( value-separator value ), value-separator = ws %x2C ws
  pub data Items : ℕ → List ℕ → ℕ → List ℕ → Children → Type 0 where
    last_item : {i j k l : ℕ} {t0 t1 t2 rest : List ℕ} {tree : Tree}
        → Blanks i t0 j t1 → Value j t1 k t2 tree → Blanks k t2 l rest
        → Items i t0 l rest (child None tree no_children)
    item : {i j k l m : ℕ} {t0 t1 t2 t3 rest : List ℕ} {tree : Tree} {more : Children}
        → Blanks i t0 j t1 → Value j t1 k t2 tree → Blanks k t2 l (0x2c ∷ t3) → Items (suc l) t3 m rest more
        → Items i t0 m rest (child None tree more)

  -- the members of an object, with the white space around each; the string is the name (section 4)
  --   member *( value-separator member ), member = string name-separator value, name-separator = ws %x3A ws
  pub data Members : ℕ → List ℕ → ℕ → List ℕ → Children → Type 0 where
    last_member : {i j k l m n o : ℕ} {t0 t1 t2 t3 t4 t5 rest : List ℕ} {tree : Tree}
        → Blanks i t0 j t1 → Scalar String j t1 k t2 → Blanks k t2 l (0x3a ∷ t3)
        → Blanks (suc l) t3 m t4 → Value m t4 n t5 tree → Blanks n t5 o rest
        → Members i t0 o rest (child (Some (span j k)) tree no_children)
    member : {i j k l m n o p : ℕ} {t0 t1 t2 t3 t4 t5 t6 rest : List ℕ} {tree : Tree} {more : Children}
        → Blanks i t0 j t1 → Scalar String j t1 k t2 → Blanks k t2 l (0x3a ∷ t3)
        → Blanks (suc l) t3 m t4 → Value m t4 n t5 tree → Blanks n t5 o (0x2c ∷ t6) → Members (suc o) t6 p rest more
        → Members i t0 p rest (child (Some (span j k)) tree more)
