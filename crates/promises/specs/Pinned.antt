-- What the twelve starred examples leave open of 01, as one statement over a second list. Each case shuts out a wrong reading; docs/PROMISES.md says
-- which. Assumes nothing.
use Rattle.std.specs.Prelude.{ℕ, zero, suc, ◌+◌, true, false, List, [], ◌∷◌, ◌++◌, T, replicate}
use Prim.Native.String.{String}
use Rattle.laws.specs.Lists.{split_at, until, count_of}
use Rattle.chars.specs.Utf8.{text_from, chars_from, sound_from, bytes_of}
use Rattle.chars.specs.Letters.{white, capital, even_capital, odd_capital, lower_of, vowel}
use Rattle.chars.specs.Quoted.{bytes, lines}
use Rattle.rule_text.specs.Forms.{entry, quadruplet, folding, multiline_comment, end_of_line, ending, comment, blanks, later, pair_at, line_at, part, plain, escaped, part_at, letter_at, closing}
use Rattle.rule_text.specs.Items.{items_from}
use Rattle.plate.specs.Bits.{bit, number_at}
use Rattle.builder.specs.Build.{build_answer, verdict}
use Rattle.branches.specs.Branches.{ends_with, extend, met, step, run, over}
use Rattle.plate.specs.Read.{fold_by}
use Rattle.coder.specs.Walk.{walk}
use Rattle.coder.specs.Answer.{joined, room, list_answer, encode_answer}
use Rattle.promises.specs.Case.{Case, Codes, BadName, BadPlace, GoodText, BadText, apart}
use Rattle.promises.specs.Starred.{text_s, under, under_s}

-- n foldings, of the characters from c on
abbrev foldings : ℕ → ℕ → List ℕ
foldings zero c = []
foldings (suc n) c = bytes_of c ++ (bytes "=a\n" ++ foldings n (c + 1))

-- S, and more lines behind it
abbrev with_s : List String → List ℕ
with_s more = text_s ++ lines more

-- texts that are not S
abbrev ends : List ℕ
ends = lines ("\"x\" \"43\" \"43\" \"43\"" ∷ "\"y\" \"3\" \"3\" \"3\"" ∷ [])

abbrev six : List ℕ
six = lines ("\"x\" \"123456\" \"123456\" \"123456\"" ∷ "\"y\" \"12345\" \"12345\" \"12345\"" ∷ "\"w\" \"67\" \"67\" \"67\"" ∷ "\"c\" \"4|5\" \"4|5\" \"4|5\"" ∷ [])

abbrev cases : List Case
cases =
    -- "after `43`, `3` is not appended; after `3`, `43` is"
    under ends "xy" "430000"
    ∷ under ends "yx" "343000"
    -- "`Àr`: `090000`, flag off `900000`"; the vowel is looked for behind folding and dropping
    ∷ under_s "Àr" "090000"
    ∷ Codes text_s false (bytes "Àr") 447 (bytes "900000")
    ∷ under_s "rhÀ" "950000"
    ∷ Codes text_s false (bytes "rhÀ") 447 (bytes "900000")
    ∷ under_s "R h A" "950000"
    -- "fold once, never again"; a target is not lowered
    ∷ under (with_s ("q=r" ∷ "r=w" ∷ [])) "qr" "970000"
    ∷ under (with_s ("q=A" ∷ "\"A\" \"3\" \"3\" \"3\"" ∷ [])) "q" "300000"
    -- a later folding of a key replaces the earlier
    ∷ under (with_s ("q=r" ∷ "q=w" ∷ [])) "q" "700000"
    -- "start, if no character with a group came before": behind a character without one, and not behind a group without a match
    ∷ under_s "xxa" "000000"
    ∷ under_s "xxch" "400000|500000"
    ∷ under (with_s ("\"z\" \"1\" \"2\" \"3\"" ∷ [])) "xz" "100000"
    ∷ under (with_s ("\"z\" \"1\" \"2\" \"3\"" ∷ [])) "za" "100000"
    ∷ under (with_s ("\"z\" \"1\" \"2\" \"3\"" ∷ [])) "iz" "300000"
    ∷ under (with_s ("\"z\" \"1\" \"2\" \"3\"" ∷ [])) "iza" "200000"
    -- "between the group characters": one without a group does not come between, one with a group and no match does
    ∷ under_s "mxn" "660000"
    ∷ under_s "m\0n" "660000"
    ∷ under_s "min" "600000"
    -- the first character of the pattern is the character before
    ∷ under (with_s ("\"mz\" \"6\" \"6\" \"6\"" ∷ "\"am\" \"6\" \"6\" \"6\"" ∷ [])) "mzn" "660000"
    ∷ under (with_s ("\"mz\" \"6\" \"6\" \"6\"" ∷ "\"am\" \"6\" \"6\" \"6\"" ∷ [])) "amn" "600000"
    -- "the longest pattern that begins here; of equal patterns the first"
    ∷ under (lines ("\"a\" \"1\" \"1\" \"1\"" ∷ "\"ab\" \"2\" \"2\" \"2\"" ∷ [])) "ab" "200000"
    ∷ under (lines ("\"a\" \"1\" \"1\" \"1\"" ∷ "\"a\" \"2\" \"2\" \"2\"" ∷ [])) "a" "100000"
    -- "Go on behind the pattern, in characters"
    ∷ under (with_s ("\"ą\" \"6\" \"6\" \"6\"" ∷ [])) "ąr" "690000"
    ∷ under (with_s ("\"ą\" \"1\" \"2\" \"3\"" ∷ [])) "rąa" "920000"
    ∷ under (with_s ("\"ą\" \"1\" \"2\" \"3\"" ∷ [])) "rąra" "939000"
    -- "appended and cut at six digits"; the whole alternative becomes the last replacement
    ∷ under six "yw" "123456"
    -- "The branch list, at the start or after some step": 6 bytes hold the one code that is left in the end, and are refused
    ∷ Codes six true (bytes "xcx") 13 (bytes "123456")
    ∷ BadName six true (bytes "xcx") 12 12
    ∷ BadName text_s true (bytes "cacacacacacac") 1000 12
    ∷ BadName text_s true (bytes "cacacacacacaca") 1000 12
    ∷ Codes text_s true (bytes "cc") 27 (bytes "400000|450000|540000|500000")
    ∷ BadName text_s true (bytes "cc") 26 12
    ∷ BadName text_s true (bytes "") 5 12
    ∷ Codes text_s true (bytes "") 6 (bytes "000000")
    -- names: 1, 2, 11, in this order; 10 before them
    ∷ Codes text_s true (replicate 256 114) 6 (bytes "900000")
    ∷ BadName text_s true (replicate 257 0xFF) 0 1
    ∷ BadPlace text_s true (0xC6 ∷ 0x80 ∷ 0xFF ∷ []) 0 2 2
    ∷ BadName text_s true (bytes "ƀ") 0 11
    ∷ under_s "ſr" "900000"
    ∷ under_s "r\u{2003}r" "900000"
    ∷ BadName (bytes "?") true (replicate 257 0xFF) 0 10
    -- texts: 1, 2, then the first fault, at its line
    ∷ BadText (replicate 65537 0xFF) 1 0
    ∷ BadText (bytes "?\0") 2 0
    ∷ BadText (63 ∷ 0xFF ∷ []) 2 0
    ∷ BadText (bytes "\n\n?") 3 3
    -- the line is 1 plus the newlines before the item's first byte, wherever they stand: behind a comment or in it, in a folding, in a part
    ∷ BadText (bytes "/* */\nx") 3 2
    ∷ BadText (bytes "/* \n\n */\n\n\"\" \"\" \"\" \"\"\n") 4 5
    ∷ BadText (bytes "\n=x\n?") 3 3
    ∷ BadText (bytes "a=\n\n?") 3 3
    ∷ BadText (bytes "\"a\nb\" \"\" \"\" \"\"\n?") 3 3
    ∷ BadText (bytes "\r\n\r\n?") 3 3
    -- the item's first byte decides, not the fault inside it
    ∷ BadText (bytes "\"a\" \"1\n\" \"\" \"\"\n") 7 1
    ∷ BadText (bytes "\"abcdefghijklmnopq\" \"x\" \"\" \"\"") 5 1
    ∷ GoodText (bytes "\"abcdefghijklmnop\" \"123456\" \"|||||||\" \"\"") 1 0
    ∷ BadText (bytes "\n\"a\" \"x|||||||||\" \"\" \"\"") 6 2
    ∷ BadText (bytes "\n\"a\" \"\" \"x\" \"||||||||\"") 7 2
    ∷ BadText (bytes "à=a\n\"à\" \"1234567\" \"\" \"\"") 7 2
    ∷ GoodText (foldings 128 256) 0 128
    ∷ BadText (foldings 129 256) 8 129
    ∷ GoodText (foldings 128 256 ++ foldings 128 256) 0 128
    -- form 1 before form 2: a rule with the pattern `=x//`; form 2 before form 3: a newline is folded
    ∷ GoodText (bytes "\"=x//\" \"1\" \"1\" \"1\"") 1 0
    ∷ GoodText (bytes "\"=\"") 0 1
    ∷ GoodText (bytes "\n=x") 0 1
    ∷ BadText (bytes "// c\n=x") 3 2
    -- folding: any character; then a line end
    ∷ GoodText (bytes " =x") 0 1
    ∷ GoodText (bytes "a=\n") 0 1
    ∷ GoodText (bytes "a=\r\n") 0 1
    ∷ BadText (bytes "a=\nb=c") 3 1
    ∷ BadText (bytes "a=b\r") 3 1
    ∷ BadText (bytes "a=//") 3 1
    ∷ GoodText (bytes "a=///") 0 1
    -- parts: backslash and quote are the content, a quote must follow; content runs to the next quote, over lines too
    ∷ under (bytes "\"\\\"\" \"1\" \"1\" \"1\"") "\\\"" "100000"
    ∷ under (bytes "\"\\\"\" \"1\" \"1\" \"1\"") "\"" "000000"
    ∷ BadText (bytes "\"\\\" \"1\" \"1\" \"1\"") 3 1
    ∷ BadText (bytes "\"a\" \"\\\"\" \"\" \"\"") 7 1
    ∷ BadText (bytes "\"a\\\"\" \"\" \"\" \"\"") 3 1
    ∷ GoodText (bytes "\"a\nb\" \"\" \t\"\" \"\"//\r\n") 1 0
    ∷ BadText (bytes "\"a\"\"\" \"\" \"\"") 3 1
    ∷ BadText (bytes "\"a\" \"\" \"\" \"\"\r") 3 1
    ∷ BadText (bytes " \"a\" \"\" \"\" \"\"") 3 1
    -- block comments: up to the first */ behind, then a line end
    ∷ BadText (bytes "/*/") 3 1
    ∷ GoodText (bytes "/*/ */ // c\n \t") 0 0
    ∷ BadText (bytes "/**/*/") 3 1
    ∷ []

-- For each kind of case: another answer, an answer in place of a refusal, a refusal in place of an answer.
abbrev wrong : List Case
wrong =
    under ends "xy" "433000"
    ∷ Codes text_s true (bytes "cc") 26 (bytes "400000|450000|540000|500000")
    ∷ under_s "ƀ" "000000"
    ∷ BadName text_s true (bytes "cc") 26 10
    ∷ BadName text_s true (bytes "cc") 27 12
    ∷ GoodText (bytes "a=\n") 1 1
    ∷ GoodText (bytes "a=\n") 0 0
    ∷ GoodText (bytes "a=\nb=c") 0 2
    ∷ BadText (bytes "\n\n?") 3 2
    ∷ BadText (bytes "\n\n?") 2 3
    ∷ BadText (bytes "\n\n") 3 3
    ∷ BadText (bytes "/* */\nx") 3 3
    ∷ BadText (bytes "\n=x\n?") 3 2
    ∷ BadText (bytes "\"a\" \"1\n\" \"\" \"\"\n") 7 2
    ∷ []

pub pinned : T (apart cases wrong)
unfolding text_from chars_from sound_from white capital even_capital odd_capital lower_of vowel entry quadruplet folding multiline_comment end_of_line ending comment
    blanks until count_of later pair_at line_at part plain escaped part_at letter_at closing items_from split_at bit number_at build_answer verdict ends_with extend met
    step run over fold_by walk joined room list_answer encode_answer
pinned = tt
