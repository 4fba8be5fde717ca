mod SayLemmas
