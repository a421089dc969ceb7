-- The standard rules: rules/daitch-mokotoff.txt, line by line. `tests/standard --write` writes this file. Assumes nothing.
use Rattle.std.specs.Prelude.{ℕ, List, [], ◌∷◌}
use Rattle.chars.specs.Quoted.{lines}

abbrev pub text : List ℕ
text = lines (
    "// The standard Daitch-Mokotoff rules as rule text: pattern, code at the start of a name, code before a vowel, code" ∷
    "// anywhere else. Written for this project from the published coding chart. \"\" is the chart's \"not coded\"; a bar" ∷
    "// parts the codes of a pattern that the chart reads in two ways. letter=letter is a folding." ∷
    "//" ∷
    "// The chart gives both codes of such a pattern and no rank. Here the rank counts, since encode takes the first one" ∷
    "// only. It is the rank of commons-codec and rphonetic, under which Rosochowaciec is shelved at 944744." ∷
    "//" ∷
    "// Where this text differs from commons-codec's, a comment that begins \"Differs from commons-codec\" gives the reason;" ∷
    "// it speaks of the lines below it, up to the next empty line. rules/compare holds the two texts together." ∷
    "" ∷
    "// A" ∷
    "\"ai\" \"0\" \"1\" \"\"" ∷
    "\"aj\" \"0\" \"1\" \"\"" ∷
    "\"ay\" \"0\" \"1\" \"\"" ∷
    "\"au\" \"0\" \"7\" \"\"" ∷
    "\"a\" \"0\" \"\" \"\"" ∷
    "" ∷
    "// Polish a with a tail: nasal, so an n may be heard behind it." ∷
    "\"ą\" \"\" \"\" \"|6\"" ∷
    "" ∷
    "// B" ∷
    "\"b\" \"7\" \"7\" \"7\"" ∷
    "" ∷
    "// C. CH is read as TCH or KH, CK as K or TSK, C as TZ or K." ∷
    "\"chs\" \"5\" \"54\" \"54\"" ∷
    "\"ch\" \"4|5\" \"4|5\" \"4|5\"" ∷
    "\"ck\" \"5|45\" \"5|45\" \"5|45\"" ∷
    "\"csz\" \"4\" \"4\" \"4\"" ∷
    "\"czs\" \"4\" \"4\" \"4\"" ∷
    "\"cs\" \"4\" \"4\" \"4\"" ∷
    "\"cz\" \"4\" \"4\" \"4\"" ∷
    "\"c\" \"4|5\" \"4|5\" \"4|5\"" ∷
    "" ∷
    "// D" ∷
    "\"drs\" \"4\" \"4\" \"4\"" ∷
    "\"drz\" \"4\" \"4\" \"4\"" ∷
    "\"dsh\" \"4\" \"4\" \"4\"" ∷
    "\"dsz\" \"4\" \"4\" \"4\"" ∷
    "\"dzh\" \"4\" \"4\" \"4\"" ∷
    "\"dzs\" \"4\" \"4\" \"4\"" ∷
    "\"ds\" \"4\" \"4\" \"4\"" ∷
    "\"dz\" \"4\" \"4\" \"4\"" ∷
    "\"dt\" \"3\" \"3\" \"3\"" ∷
    "\"d\" \"3\" \"3\" \"3\"" ∷
    "" ∷
    "// E" ∷
    "\"ei\" \"0\" \"1\" \"\"" ∷
    "\"ej\" \"0\" \"1\" \"\"" ∷
    "\"ey\" \"0\" \"1\" \"\"" ∷
    "\"eu\" \"1\" \"1\" \"\"" ∷
    "\"e\" \"0\" \"\" \"\"" ∷
    "" ∷
    "// Polish e with a tail: nasal, so an n may be heard behind it." ∷
    "\"ę\" \"\" \"\" \"|6\"" ∷
    "" ∷
    "// F" ∷
    "\"fb\" \"7\" \"7\" \"7\"" ∷
    "\"f\" \"7\" \"7\" \"7\"" ∷
    "" ∷
    "// G" ∷
    "\"g\" \"5\" \"5\" \"5\"" ∷
    "" ∷
    "// H" ∷
    "\"h\" \"5\" \"5\" \"\"" ∷
    "" ∷
    "// I" ∷
    "\"ia\" \"1\" \"\" \"\"" ∷
    "\"ie\" \"1\" \"\" \"\"" ∷
    "\"io\" \"1\" \"\" \"\"" ∷
    "\"iu\" \"1\" \"\" \"\"" ∷
    "\"i\" \"0\" \"\" \"\"" ∷
    "" ∷
    "// J is read as Y or DZH." ∷
    "\"j\" \"1|4\" \"|4\" \"|4\"" ∷
    "" ∷
    "// K" ∷
    "\"kh\" \"5\" \"5\" \"5\"" ∷
    "\"ks\" \"5\" \"54\" \"54\"" ∷
    "\"k\" \"5\" \"5\" \"5\"" ∷
    "" ∷
    "// L" ∷
    "\"l\" \"8\" \"8\" \"8\"" ∷
    "" ∷
    "// M. Both letters of MN and NM are coded, though their codes are equal." ∷
    "\"mn\" \"66\" \"66\" \"66\"" ∷
    "\"m\" \"6\" \"6\" \"6\"" ∷
    "" ∷
    "// N" ∷
    "\"nm\" \"66\" \"66\" \"66\"" ∷
    "\"n\" \"6\" \"6\" \"6\"" ∷
    "" ∷
    "// O" ∷
    "\"oi\" \"0\" \"1\" \"\"" ∷
    "\"oj\" \"0\" \"1\" \"\"" ∷
    "\"oy\" \"0\" \"1\" \"\"" ∷
    "\"o\" \"0\" \"\" \"\"" ∷
    "" ∷
    "// P" ∷
    "\"pf\" \"7\" \"7\" \"7\"" ∷
    "\"ph\" \"7\" \"7\" \"7\"" ∷
    "\"p\" \"7\" \"7\" \"7\"" ∷
    "" ∷
    "// Q" ∷
    "\"q\" \"5\" \"5\" \"5\"" ∷
    "" ∷
    "// R. RS and RZ are read as ZH or RTZ." ∷
    "\"rs\" \"4|94\" \"4|94\" \"4|94\"" ∷
    "\"rz\" \"4|94\" \"4|94\" \"4|94\"" ∷
    "\"r\" \"9\" \"9\" \"9\"" ∷
    "" ∷
    "// S" ∷
    "\"schtsch\" \"2\" \"4\" \"4\"" ∷
    "\"schtch\" \"2\" \"4\" \"4\"" ∷
    "\"schtsh\" \"2\" \"4\" \"4\"" ∷
    "\"shtch\" \"2\" \"4\" \"4\"" ∷
    "\"shtsh\" \"2\" \"4\" \"4\"" ∷
    "\"stsch\" \"2\" \"4\" \"4\"" ∷
    "\"schd\" \"2\" \"43\" \"43\"" ∷
    "\"scht\" \"2\" \"43\" \"43\"" ∷
    "\"shch\" \"2\" \"4\" \"4\"" ∷
    "\"stch\" \"2\" \"4\" \"4\"" ∷
    "\"strs\" \"2\" \"4\" \"4\"" ∷
    "\"strz\" \"2\" \"4\" \"4\"" ∷
    "\"stsh\" \"2\" \"4\" \"4\"" ∷
    "\"szcs\" \"2\" \"4\" \"4\"" ∷
    "\"szcz\" \"2\" \"4\" \"4\"" ∷
    "\"sch\" \"4\" \"4\" \"4\"" ∷
    "\"shd\" \"2\" \"43\" \"43\"" ∷
    "\"sht\" \"2\" \"43\" \"43\"" ∷
    "\"szd\" \"2\" \"43\" \"43\"" ∷
    "\"szt\" \"2\" \"43\" \"43\"" ∷
    "\"sc\" \"2\" \"4\" \"4\"" ∷
    "\"sd\" \"2\" \"43\" \"43\"" ∷
    "\"sh\" \"4\" \"4\" \"4\"" ∷
    "\"st\" \"2\" \"43\" \"43\"" ∷
    "\"sz\" \"4\" \"4\" \"4\"" ∷
    "\"s\" \"4\" \"4\" \"4\"" ∷
    "" ∷
    "// T" ∷
    "\"ttsch\" \"4\" \"4\" \"4\"" ∷
    "\"tsch\" \"4\" \"4\" \"4\"" ∷
    "\"ttch\" \"4\" \"4\" \"4\"" ∷
    "\"ttsz\" \"4\" \"4\" \"4\"" ∷
    "\"tch\" \"4\" \"4\" \"4\"" ∷
    "\"trs\" \"4\" \"4\" \"4\"" ∷
    "\"trz\" \"4\" \"4\" \"4\"" ∷
    "\"tsh\" \"4\" \"4\" \"4\"" ∷
    "\"tsz\" \"4\" \"4\" \"4\"" ∷
    "\"tts\" \"4\" \"4\" \"4\"" ∷
    "\"ttz\" \"4\" \"4\" \"4\"" ∷
    "\"tzs\" \"4\" \"4\" \"4\"" ∷
    "\"tc\" \"4\" \"4\" \"4\"" ∷
    "\"th\" \"3\" \"3\" \"3\"" ∷
    "\"ts\" \"4\" \"4\" \"4\"" ∷
    "\"tz\" \"4\" \"4\" \"4\"" ∷
    "\"t\" \"3\" \"3\" \"3\"" ∷
    "" ∷
    "// Romanian t with a mark below, read as T or TS: with cedilla (U+0163), and with comma (U+021B). The second is" ∷
    "// beyond the letters a name may hold, so no name reaches it; it stands for the day one may." ∷
    "\"ţ\" \"3|4\" \"3|4\" \"3|4\"" ∷
    "\"ț\" \"3|4\" \"3|4\" \"3|4\"" ∷
    "" ∷
    "// U" ∷
    "\"ui\" \"0\" \"1\" \"\"" ∷
    "\"uj\" \"0\" \"1\" \"\"" ∷
    "\"uy\" \"0\" \"1\" \"\"" ∷
    "\"u\" \"0\" \"\" \"\"" ∷
    "" ∷
    "// Differs from commons-codec: the chart lists UE with U, so it is not coded before a vowel; there it is 1." ∷
    "\"ue\" \"0\" \"\" \"\"" ∷
    "" ∷
    "// V" ∷
    "\"v\" \"7\" \"7\" \"7\"" ∷
    "" ∷
    "// W" ∷
    "\"w\" \"7\" \"7\" \"7\"" ∷
    "" ∷
    "// X" ∷
    "\"x\" \"5\" \"54\" \"54\"" ∷
    "" ∷
    "// Y" ∷
    "\"y\" \"1\" \"\" \"\"" ∷
    "" ∷
    "// Z" ∷
    "\"zhdzh\" \"2\" \"4\" \"4\"" ∷
    "\"zdzh\" \"2\" \"4\" \"4\"" ∷
    "\"zsch\" \"4\" \"4\" \"4\"" ∷
    "\"zdz\" \"2\" \"4\" \"4\"" ∷
    "\"zhd\" \"2\" \"43\" \"43\"" ∷
    "\"zsh\" \"4\" \"4\" \"4\"" ∷
    "\"zd\" \"2\" \"43\" \"43\"" ∷
    "\"zh\" \"4\" \"4\" \"4\"" ∷
    "\"zs\" \"4\" \"4\" \"4\"" ∷
    "\"z\" \"4\" \"4\" \"4\"" ∷
    "" ∷
    "// Differs from commons-codec: it has no Cyrillic; these rules, and the foldings of Cyrillic letters below, are ours. A" ∷
    "// letter that one Latin letter stands for is folded to it, so that it counts as a vowel and joins the patterns above; Ж" ∷
    "// and Ц are read as Z, Ш as S, whose codes are those of ZH, TS and SH. The others have rules, by their common" ∷
    "// transliterations. A pattern is met in a name that is folded already: Марченко is marчenko there. Г is G or H, Х is KH" ∷
    "// or H: at the start and before a vowel both are 5, else H is not coded." ∷
    "\"г\" \"5\" \"5\" \"5|\"" ∷
    "\"х\" \"5\" \"5\" \"5|\"" ∷
    "\"ѓ\" \"5\" \"5\" \"5\"" ∷
    "\"ќ\" \"5\" \"5\" \"5\"" ∷
    "\"ѕ\" \"4\" \"4\" \"4\"" ∷
    "\"џ\" \"4\" \"4\" \"4\"" ∷
    "\"ч\" \"4\" \"4\" \"4\"" ∷
    "\"tч\" \"4\" \"4\" \"4\"" ∷
    "\"sч\" \"4|2\" \"4\" \"4\"" ∷
    "\"stч\" \"2\" \"4\" \"4\"" ∷
    "" ∷
    "// Differs from commons-codec: it has no Cyrillic. Щ is SHCH, and SHT in Bulgarian. Ъ is a vowel in Bulgarian; in Russian" ∷
    "// a vowel follows it. Ь has no rule: it is passed over. Є is YE, Ї is YI, Ю is YU, Я is YA; behind a, e, o or u the Y of YU" ∷
    "// and YA is heard, as in AY before a vowel." ∷
    "\"щ\" \"2\" \"4|43\" \"4|43\"" ∷
    "\"ъ\" \"0\" \"\" \"\"" ∷
    "\"ѐ\" \"0\" \"\" \"\"" ∷
    "\"ѝ\" \"0\" \"\" \"\"" ∷
    "\"є\" \"1|0\" \"\" \"\"" ∷
    "\"ї\" \"1|0\" \"\" \"\"" ∷
    "\"ю\" \"1\" \"\" \"\"" ∷
    "\"я\" \"1\" \"\" \"\"" ∷
    "\"aю\" \"0\" \"1\" \"1\"" ∷
    "\"aя\" \"0\" \"1\" \"1\"" ∷
    "\"eю\" \"0\" \"1\" \"1\"" ∷
    "\"eя\" \"0\" \"1\" \"1\"" ∷
    "\"oю\" \"0\" \"1\" \"1\"" ∷
    "\"oя\" \"0\" \"1\" \"1\"" ∷
    "\"uю\" \"0\" \"1\" \"1\"" ∷
    "\"uя\" \"0\" \"1\" \"1\"" ∷
    "" ∷
    "// Foldings. A letter with a mark that the chart does not know is coded as the letter without it. Names are lowered" ∷
    "// before they are folded, so only small letters stand here. ß and þ have no such letter; they go to s and b." ∷
    "ß=s" ∷
    "à=a" ∷
    "á=a" ∷
    "â=a" ∷
    "ã=a" ∷
    "ä=a" ∷
    "å=a" ∷
    "æ=a" ∷
    "ç=c" ∷
    "è=e" ∷
    "é=e" ∷
    "ê=e" ∷
    "ë=e" ∷
    "ì=i" ∷
    "í=i" ∷
    "î=i" ∷
    "ï=i" ∷
    "ð=d" ∷
    "ñ=n" ∷
    "ò=o" ∷
    "ó=o" ∷
    "ô=o" ∷
    "õ=o" ∷
    "ö=o" ∷
    "ø=o" ∷
    "ù=u" ∷
    "ú=u" ∷
    "û=u" ∷
    "ý=y" ∷
    "þ=b" ∷
    "ÿ=y" ∷
    "ć=c" ∷
    "ł=l" ∷
    "ś=s" ∷
    "ż=z" ∷
    "ź=z" ∷
    "" ∷
    "// Differs from commons-codec: ü is missing there (ý stands twice), and without a folding a name loses the letter." ∷
    "ü=u" ∷
    "" ∷
    "// Differs from commons-codec: it folds five letters beyond U+00FF. These are the other Latin letters that a name may" ∷
    "// hold (up to U+017F), but for ą, ę and ţ, which have rules. Without a folding the r of Dvořák is lost." ∷
    "ā=a" ∷
    "ă=a" ∷
    "ĉ=c" ∷
    "ċ=c" ∷
    "č=c" ∷
    "ď=d" ∷
    "đ=d" ∷
    "ē=e" ∷
    "ĕ=e" ∷
    "ė=e" ∷
    "ě=e" ∷
    "ĝ=g" ∷
    "ğ=g" ∷
    "ġ=g" ∷
    "ģ=g" ∷
    "ĥ=h" ∷
    "ħ=h" ∷
    "ĩ=i" ∷
    "ī=i" ∷
    "ĭ=i" ∷
    "į=i" ∷
    "ı=i" ∷
    "ĳ=i" ∷
    "ĵ=j" ∷
    "ķ=k" ∷
    "ĸ=k" ∷
    "ĺ=l" ∷
    "ļ=l" ∷
    "ľ=l" ∷
    "ŀ=l" ∷
    "ń=n" ∷
    "ņ=n" ∷
    "ň=n" ∷
    "ŉ=n" ∷
    "ŋ=n" ∷
    "ō=o" ∷
    "ŏ=o" ∷
    "ő=o" ∷
    "œ=o" ∷
    "ŕ=r" ∷
    "ŗ=r" ∷
    "ř=r" ∷
    "ŝ=s" ∷
    "ş=s" ∷
    "š=s" ∷
    "ť=t" ∷
    "ŧ=t" ∷
    "ũ=u" ∷
    "ū=u" ∷
    "ŭ=u" ∷
    "ů=u" ∷
    "ű=u" ∷
    "ų=u" ∷
    "ŵ=w" ∷
    "ŷ=y" ∷
    "ž=z" ∷
    "ſ=s" ∷
    "" ∷
    "// Differs from commons-codec: it has no Cyrillic. Serbian Ђ, Ћ, Љ and Њ are folded as their Latin forms đ, ć, lj and nj" ∷
    "// are, the j left out." ∷
    "а=a" ∷
    "б=b" ∷
    "в=v" ∷
    "д=d" ∷
    "е=e" ∷
    "ж=z" ∷
    "з=z" ∷
    "и=i" ∷
    "й=y" ∷
    "к=k" ∷
    "л=l" ∷
    "м=m" ∷
    "н=n" ∷
    "о=o" ∷
    "п=p" ∷
    "р=r" ∷
    "с=s" ∷
    "т=t" ∷
    "у=u" ∷
    "ф=f" ∷
    "ц=z" ∷
    "ш=s" ∷
    "ы=y" ∷
    "э=e" ∷
    "ё=e" ∷
    "ђ=d" ∷
    "і=i" ∷
    "ј=j" ∷
    "љ=l" ∷
    "њ=n" ∷
    "ћ=c" ∷
    "ў=u" ∷
    [])
