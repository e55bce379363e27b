-- Inner: how the code goes, need not be believed. What the functions that read and print ask for and leave. Assumes nothing.
use Rattle.std.specs.Prelude.{ℕ, ◌/◌, ◌≡◌, List, ◌++◌, length}
use Rattle.image.specs.Image.{former_length}
use Rattle.report.specs.Report.{sizes_in, blank}
use Rattle.report.specs.declared.SizesAt.{SizesAt}
use Rattle.report.specs.declared.SizesAt.TheVariants.{Start, End}

-- how many words the image of an input has
unfoldable pub image_words : SizesAt → List ℕ → ℕ
image_words Start input = former_length (sizes_in Start input)
image_words End input = length input / 8

-- buffers of an image of n words, with nothing in cache and flags
pub record Blanks (n : ℕ) (cache nvm flags : List ℕ) : Type 0 where
  pub no-cache : cache ≡ blank n
  pub in-nvm : length nvm ≡ n
  pub no-flags : flags ≡ blank n

-- a page with a text behind what it had
pub record Put (old text new : List ℕ) : Type 0 where
  pub grown : new ≡ old ++ text
