mod Trailer
